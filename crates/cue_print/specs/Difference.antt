-- The members of one set that another lacks, in the one form of sets.
use Rattle.std.specs.Prelude.{ℕ, ℤ, pos, ◌+ℤ◌, ◌-ℤ◌, Bool, true, false, not, ◌&&◌, List, [], ◌∷◌}
use Rattle.std.specs.Prelude.{◌++◌, if◌then◌else◌, int_le, filter}
use Rattle.std.specs.List.{flat_map}
use Rattle.std.specs.declared.cmp.Ordering.{Ordering}
use Rattle.std.specs.declared.cmp.Ordering.TheVariants.{Less, Equal, Greater}
use Rattle.cue_sets.specs.Texts.{text_cmp, is_listed, is_text_member}
use Rattle.cue_scalars.specs.declared.scalar_set.ScalarSet.{ScalarSet}

-- ---- integers
-- the integers from first to last, where there are any
abbrev pub span : ℤ → ℤ → List (ℤ × ℤ)
span first last = if int_le first last then (first, last) ∷ [] else []

abbrev pub minimum : ℤ → ℤ → ℤ
minimum m n = if int_le m n then m else n

abbrev pub maximum : ℤ → ℤ → ℤ
maximum m n = if int_le m n then n else m

-- what is left of a piece without another one: what is before that and what is behind it
abbrev pub piece_without : ℤ × ℤ → ℤ × ℤ → List (ℤ × ℤ)
piece_without gap piece =
    span piece.0 (minimum piece.1 (gap.0 -ℤ pos 1))
    ++ span (maximum piece.0 (gap.1 +ℤ pos 1)) piece.1

-- the pieces without one piece
abbrev pub cut_piece : ℤ × ℤ → List (ℤ × ℤ) → List (ℤ × ℤ)
cut_piece gap pieces = flat_map (piece_without gap) pieces

-- the pieces without these
abbrev pub pieces_without : List (ℤ × ℤ) → List (ℤ × ℤ) → List (ℤ × ℤ)
pieces_without pieces [] = pieces
pieces_without pieces (gap ∷ gaps) = pieces_without (cut_piece gap pieces) gaps

-- ---- texts
-- a text by how it compares with the first of some texts; `later` has it among the others
abbrev pub inserted_at : Ordering → List ℕ → List ℕ → List (List ℕ) → List (List ℕ) → List (List ℕ)
inserted_at Less t first others later = t ∷ first ∷ others
inserted_at Equal t first others later = first ∷ others
inserted_at Greater t first others later = first ∷ later

-- a text at its place among ascending ones
abbrev pub insert_text : List ℕ → List (List ℕ) → List (List ℕ)
insert_text t [] = t ∷ []
insert_text t (first ∷ others) = inserted_at (text_cmp t first) t first others (insert_text t others)

abbrev pub all_inserted : List (List ℕ) → List (List ℕ) → List (List ℕ)
all_inserted [] texts = texts
all_inserted (t ∷ ts) texts = insert_text t (all_inserted ts texts)

-- Of a finite set those stay that the other lacks. All texts but some, without all but others, are
-- those of the others that are not left out already; without a finite set they leave out its
-- members too.
abbrev pub texts_without : Bool × List (List ℕ) → Bool × List (List ℕ) → Bool × List (List ℕ)
texts_without (false, texts) other = (false, filter (λ t. not (is_text_member other t)) texts)
texts_without (true, texts) (true, others) = (false, filter (λ t. not (is_listed texts t)) others)
texts_without (true, texts) (false, others) = (true, all_inserted others texts)

-- ---- scalars
abbrev pub scalars_without : ScalarSet → ScalarSet → ScalarSet
scalars_without set other = record {
  null = set.null && not other.null;
  no = set.no && not other.no;
  yes = set.yes && not other.yes;
  ints = pieces_without set.ints other.ints;
  texts = texts_without set.texts other.texts;
}
