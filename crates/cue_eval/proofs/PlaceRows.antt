-- The rows of scalars, of structs and lists, which let no scalar stand, and rows with another level.
use Rattle.std.proofs.Common.{◌≡◌, ◌↔◌, ◌⊎◌, ◌<◌, ◌≤ℤ◌, inl, inr, ⊎_elim, ℕ, ℤ, max, Bool, true, false, Option, Some, None, List, refl, sym, ◌∙◌, subst, arith}
use Rattle.std.specs.Prelude.{option_map, unwrap_or}
use Rattle.std.specs.Str.{bytes_eq}
use Rattle.std.proofs.lemmas.Bool.{cases_lt}
use Rattle.cue_lattice.specs.Question as questions
use Rattle.cue_lattice.specs.Question.{Question, may_be, usual, allows, level_at_most, length_at_most, length_at_least}
use Rattle.cue_lattice.specs.Scalar.{IsScalar, least, greatest}
use Rattle.cue_lattice.specs.declared.scalar.Scalar.{Scalar}
use Rattle.cue_lattice.specs.declared.scalar.Scalar.TheVariants as scalars
use Rattle.cue_scalars.specs.Pairs.{ScalarPair, default_or_value}
use Rattle.cue_scalars.specs.Scalars.{members, RefusesScalar}
use Rattle.cue_scalars.specs.Values.{pair_of_value}
use Rattle.cue_scalars.specs.declared.scalar_set.ScalarSet.{ScalarSet}
use Rattle.cue_scalars.specs.declared.valued.Valued.{Valued}
use Rattle.cue_row.specs.Kept.{integers_set, text_set}
use Rattle.cue_row.specs.Lengths.{RefusesLength}
use Rattle.cue_row.specs.Made.{empty_set, scalar_row, lone_row, struct_row, list_row, at_level}
use Rattle.cue_row.specs.Row.{RowRefusesQuestion}
use Rattle.cue_row.specs.declared.parts.RowParts.{RowParts as Row}
use Rattle.cue_row.specs.Levels.{level_of}
use Rattle.cue_row.specs.declared.level.Level.{Level}
use Rattle.cue_row.specs.declared.level.Level.TheVariants.{Optional}
use Rattle.cue_syntax.specs.declared.tree.Mark.{Mark}
use Rattle.cue_eval.specs.Places.{ScalarRefuses, StructRefuses, ListRefuses, MarkRefuses, level_of_mark, IsAboveLength}
use Rattle.cue_eval.specs.Inner.Gathered.{LabelsRefuse}
use Rattle.cue_eval.specs.Pairs.{plain_pair}
use Rattle.cue_eval.specs.Sets.{integer_alone, text_alone}
use Rattle.cue_eval.proofs.Integers.{alone, or_none}

-- a set refuses the scalars of the language that aren't its members
set_refuses : (set : ScalarSet) (test : Bool) (x : Scalar) → members set x ≡ test → RefusesScalar set x ↔ (IsScalar x × (test ≡ false))
set_refuses set test scalars.Null e = (λ h. (tt, sym e ∙ h), λ h. e ∙ h.1)
set_refuses set test (scalars.Bool false) e = (λ h. (tt, sym e ∙ h), λ h. e ∙ h.1)
set_refuses set test (scalars.Bool true) e = (λ h. (tt, sym e ∙ h), λ h. e ∙ h.1)
set_refuses set test (scalars.Int n) e = (λ h. (h.0, sym e ∙ h.1), λ h. (h.0, e ∙ h.1))
set_refuses set test (scalars.Text t) e = (λ h. (tt, sym e ∙ h), λ h. e ∙ h.1)

-- a row of scalars refuses as the pair does whose scalars they are
scalars_refuse : (value usuals : ScalarSet) (pair : ScalarPair) → ((x : Scalar) → members value x ≡ pair.value x) → ((x : Scalar) → members usuals x ≡ default_or_value pair x)
    → (question : Question) → RowRefusesQuestion (scalar_row Optional value usuals) question ↔ ScalarRefuses pair question
scalars_refuse value usuals pair v u (may_be x) = set_refuses value (pair.value x) x (v x)
scalars_refuse value usuals pair v u (usual x) = set_refuses usuals (default_or_value pair x) x (u x)
scalars_refuse value usuals pair v u questions.struct = (λ h. tt, λ h. refl)
scalars_refuse value usuals pair v u questions.list = (λ h. tt, λ h. refl)
scalars_refuse value usuals pair v u (allows l) = (λ h. absurd (cc), λ h. absurd h)
scalars_refuse value usuals pair v u (level_at_most k) = (λ h. absurd (omega (arith, h)), λ h. absurd h)
scalars_refuse value usuals pair v u (length_at_most n) = (λ h. absurd (omega (arith, h)), λ h. absurd h)
scalars_refuse value usuals pair v u (length_at_least n) = (λ h. absurd h, λ h. absurd h)

pub valued_refuses : (valued : Valued) (question : Question) → RowRefusesQuestion (scalar_row Optional valued.value (unwrap_or valued.usual valued.value)) question ↔ ScalarRefuses (pair_of_value valued) question
valued_refuses valued = scalars_refuse valued.value (unwrap_or valued.usual valued.value) (pair_of_value valued) (λ x. refl) (by valued.usual) where
  by : (usuals : Option ScalarSet) (x : Scalar) → members (unwrap_or usuals valued.value) x ≡ default_or_value (record { value = members valued.value; usual = option_map members usuals }) x
  by None x = refl
  by (Some set) x = refl

integer_members : (a : ℤ) → least ≤ℤ a → a ≤ℤ greatest → (x : Scalar) → members (integers_set (a, a)) x ≡ integer_alone a x
integer_members a h k scalars.Null = refl
integer_members a h k (scalars.Bool false) = refl
integer_members a h k (scalars.Bool true) = refl
integer_members a h k (scalars.Int n) = alone a n h k
integer_members a h k (scalars.Text t) = refl

text_members : (text : List ℕ) (x : Scalar) → members (text_set text) x ≡ text_alone text x
text_members text scalars.Null = refl
text_members text (scalars.Bool false) = refl
text_members text (scalars.Bool true) = refl
text_members text (scalars.Int n) = refl
text_members text (scalars.Text t) = or_none (bytes_eq text t)

pub integer_refuses : (a : ℤ) → least ≤ℤ a → a ≤ℤ greatest → (question : Question) → RowRefusesQuestion (lone_row Optional (integers_set (a, a))) question ↔ ScalarRefuses (plain_pair (integer_alone a)) question
integer_refuses a h k = let set = integers_set (a, a) in scalars_refuse set set (plain_pair (integer_alone a)) (integer_members a h k) (integer_members a h k)

pub text_refuses : (text : List ℕ) (question : Question) → RowRefusesQuestion (lone_row Optional (text_set text)) question ↔ ScalarRefuses (plain_pair (text_alone text)) question
text_refuses text = scalars_refuse (text_set text) (text_set text) (plain_pair (text_alone text)) (text_members text) (text_members text)

-- a set without members refuses the scalars of the language
empty_refuses : (x : Scalar) → RefusesScalar empty_set x ↔ IsScalar x
empty_refuses scalars.Null = (λ h. tt, λ h. refl)
empty_refuses (scalars.Bool false) = (λ h. tt, λ h. refl)
empty_refuses (scalars.Bool true) = (λ h. tt, λ h. refl)
empty_refuses (scalars.Int n) = (λ h. h.0, λ h. (h, refl))
empty_refuses (scalars.Text t) = (λ h. tt, λ h. refl)

pub struct_refuses : (labels : Option (List (List ℕ))) (question : Question) → RowRefusesQuestion (struct_row Optional labels) question ↔ (StructRefuses question ⊎ LabelsRefuse labels question)
struct_refuses labels (may_be x) = let e = empty_refuses x in (λ h. inl (e.0 h), λ h. ⊎_elim (λ g. e.1 g) (λ g. absurd g) h)
struct_refuses labels (usual x) = let e = empty_refuses x in (λ h. inl (e.0 h), λ h. ⊎_elim (λ g. e.1 g) (λ g. absurd g) h)
struct_refuses labels questions.struct = (λ h. absurd (cc), λ h. ⊎_elim (λ g. absurd g) (λ g. absurd g) h)
struct_refuses labels questions.list = (λ h. inl tt, λ h. refl)
struct_refuses labels (allows l) = (λ h. inr h, λ h. ⊎_elim (λ g. absurd g) (λ g. g) h)
struct_refuses labels (level_at_most k) = (λ h. absurd (omega (arith, h)), λ h. ⊎_elim (λ g. absurd g) (λ g. absurd g) h)
struct_refuses labels (length_at_most n) = (λ h. absurd (omega (arith, h)), λ h. ⊎_elim (λ g. absurd g) (λ g. absurd g) h)
struct_refuses labels (length_at_least n) = (λ h. absurd h, λ h. ⊎_elim (λ g. absurd g) (λ g. absurd g) h)

-- the greatest length of a list of so many elements
abbrev pub most_of : Bool → ℕ → Option ℕ
most_of true count = None
most_of false count = Some count

above_length : (goes_on : Bool) (count n : ℕ) → RefusesLength (most_of goes_on count) n ↔ IsAboveLength count goes_on n
above_length true count n = (λ h. h, λ h. h)
above_length false count n = (λ h. h, λ h. h)

pub list_refuses : (count : ℕ) (goes_on : Bool) (question : Question) → RowRefusesQuestion (list_row Optional count (most_of goes_on count)) question ↔ ListRefuses count goes_on question
list_refuses count goes_on (may_be x) = empty_refuses x
list_refuses count goes_on (usual x) = empty_refuses x
list_refuses count goes_on questions.struct = (λ h. tt, λ h. refl)
list_refuses count goes_on questions.list = (λ h. absurd (cc), λ h. absurd h)
list_refuses count goes_on (allows l) = (λ h. absurd (cc), λ h. absurd h)
list_refuses count goes_on (level_at_most k) = (λ h. absurd (omega (arith, h)), λ h. absurd h)
list_refuses count goes_on (length_at_most n) = (λ h. h, λ h. h)
list_refuses count goes_on (length_at_least n) = above_length goes_on count n

-- a number below the greater of two is below one of them
below_greater : (k a b : ℕ) → k < max a b → (k < a) ⊎ (k < b)
below_greater k a b h = ⊎_elim (λ g. inl g) (λ g. let more : k < b = omega (arith, h, g) in inr more) (cases_lt k a)

pub raised_refuses : (row : Row) (level : Level) (mark : Mark) → level_of level ≡ max (level_of row.level) (level_of_mark mark)
    → (question : Question) → RowRefusesQuestion (at_level level row) question ↔ (RowRefusesQuestion row question ⊎ MarkRefuses mark question)
raised_refuses row level mark e (may_be x) = (λ h. inl h, ⊎_elim (λ g. g) (λ g. absurd g))
raised_refuses row level mark e (usual x) = (λ h. inl h, ⊎_elim (λ g. g) (λ g. absurd g))
raised_refuses row level mark e questions.struct = (λ h. inl h, ⊎_elim (λ g. g) (λ g. absurd g))
raised_refuses row level mark e questions.list = (λ h. inl h, ⊎_elim (λ g. g) (λ g. absurd g))
raised_refuses row level mark e (allows l) = (λ h. inl h, ⊎_elim (λ g. g) (λ g. absurd g))
raised_refuses row level mark e (level_at_most k) =
    (λ h. below_greater k (level_of row.level) (level_of_mark mark) (subst (λ n. k < n) e h), ⊎_elim (λ g. omega (arith, e, g)) (λ g. omega (arith, e, g)))
raised_refuses row level mark e (length_at_most n) = (λ h. inl h, ⊎_elim (λ g. g) (λ g. absurd g))
raised_refuses row level mark e (length_at_least n) = (λ h. inl h, ⊎_elim (λ g. g) (λ g. absurd g))
