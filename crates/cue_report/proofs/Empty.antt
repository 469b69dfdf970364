-- Sets that have no scalar.
use Rattle.std.proofs.Common.{◌≡◌, ℕ, Bool, true, false, not, ◌+◌, ◌&&◌, ◌||◌, List, [], ◌∷◌, ℤ, ◌≤ℤ◌, refl, sym, ap, ◌∙◌, arith}
use Rattle.std.specs.Bool.{IsTrue}
use Rattle.std.proofs.lemmas.Bool.{false≢true}
use Rattle.std.proofs.lemmas.Int.{ints}
use Rattle.cue_lattice.specs.Bools.{is_nil}
use Rattle.cue_lattice.specs.declared.scalar.Scalar.{Scalar}
use Rattle.cue_lattice.specs.declared.scalar.Scalar.TheVariants as scalars
use Rattle.cue_lattice.specs.Scalar.{IsInteger, IsScalar}
use Rattle.cue_sets.specs.Pieces.{least, greatest, is_member, IsCanonical}
use Rattle.cue_sets.specs.PieceLaws.{first_is_least}
use Rattle.cue_sets.specs.Texts.{is_text_member}
use Rattle.cue_sets.specs.TextLaws.{first_is_listed, is_listed-zeros, greatest_length, zeros}
use Rattle.cue_scalars.specs.Scalars.{IsScalarSet, RefusesScalar}
use Rattle.cue_scalars.specs.declared.scalar_set.ScalarSet.{ScalarSet}
use Rattle.cue_row.specs.Kinds.{IsEmptySet}
use Rattle.cue_row.specs.declared.parts.RowParts.{RowParts as Row}
use Rattle.cue_report.specs.Inner.Search.{is_empty_set, lacks_value}

no_piece : (pieces : List (ℤ × ℤ)) → IsCanonical pieces → ((n : ℤ) → IsInteger n → is_member pieces n ≡ false) → pieces ≡ []
no_piece [] a h = refl
no_piece (piece ∷ pieces) a h =
    let first = first_is_least least (piece ∷ pieces) piece a (omega arith) in
    let high : piece.0 ≤ℤ greatest = omega (arith, ints, a.1, a.2) in
    absurd (false≢true (sym (h piece.0 (a.0, high)) ∙ first.member))

no_text : (texts : Bool × List (List ℕ)) → ((t : List ℕ) → is_text_member texts t ≡ false) → texts ≡ (false, [])
no_text (false, []) h = refl
no_text (false, x ∷ xs) h = absurd (false≢true (sym (h x) ∙ first_is_listed x xs))
no_text (true, xs) h =
    let n : ℕ = greatest_length xs + 1 in
    absurd (false≢true (sym (h (zeros n)) ∙ ap not (is_listed-zeros xs n (omega arith))))

-- a set that refuses all scalars is the empty one
pub refused_empty : (set : ScalarSet) → IsScalarSet set → ((scalar : Scalar) → IsScalar scalar → RefusesScalar set scalar) → is_empty_set set ≡ true
refused_empty set form h =
    let p : set.null ≡ false = h scalars.Null tt in
    let q : set.no ≡ false = h (scalars.Bool false) tt in
    let r : set.yes ≡ false = h (scalars.Bool true) tt in
    let e : set.ints ≡ [] = no_piece set.ints form.ints (λ n i. (h (scalars.Int n) i).1) in
    let f : set.texts ≡ (false, []) = no_text set.texts (λ t. h (scalars.Text t) tt) in
    simp (p, q, r, e, f)

record Parts (set : ScalarSet) : Type 0 where
  null : set.null ≡ false
  no : set.no ≡ false
  yes : set.yes ≡ false
  ints : set.ints ≡ []
  texts : set.texts ≡ (false, [])

parts_of : (a b c : Bool) (ints : List (ℤ × ℤ)) (texts : Bool × List (List ℕ)) → (not (a || b || c) && (is_nil ints && (not texts.0 && is_nil texts.1))) ≡ true → (a ≡ false) × (b ≡ false) × (c ≡ false) × (ints ≡ []) × (texts ≡ (false, []))
parts_of false false false [] (false, []) e = (refl, refl, refl, refl, refl)
parts_of false false false [] (false, t ∷ ts) e = absurd (false≢true e)
parts_of false false false [] (true, ts) e = absurd (false≢true e)
parts_of false false false (p ∷ ps) texts e = absurd (false≢true e)
parts_of false false true ints texts e = absurd (false≢true e)
parts_of false true c ints texts e = absurd (false≢true e)
parts_of true b c ints texts e = absurd (false≢true e)

-- the empty set has no member
pub empty_members : (set : ScalarSet) → is_empty_set set ≡ true → IsEmptySet set
empty_members set e = each where
  parts : (set.null ≡ false) × (set.no ≡ false) × (set.yes ≡ false) × (set.ints ≡ []) × (set.texts ≡ (false, []))
  parts = parts_of set.null set.no set.yes set.ints set.texts e

  each : IsEmptySet set
  each scalars.Null = parts.0
  each (scalars.Bool false) = parts.1
  each (scalars.Bool true) = parts.2
  each (scalars.Int n) = ap (λ ps. is_member ps n) parts.3
  each (scalars.Text t) = ap (λ ts. is_text_member ts t) parts.4

pub refused : (set : ScalarSet) → IsEmptySet set → (scalar : Scalar) → IsScalar scalar → RefusesScalar set scalar
refused set h scalars.Null s = h scalars.Null
refused set h (scalars.Bool false) s = h (scalars.Bool false)
refused set h (scalars.Bool true) s = h (scalars.Bool true)
refused set h (scalars.Int n) s = (s, h (scalars.Int n))
refused set h (scalars.Text t) s = h (scalars.Text t)

-- so it refuses all scalars
pub empty_refused : (set : ScalarSet) → is_empty_set set ≡ true → (scalar : Scalar) → IsScalar scalar → RefusesScalar set scalar
empty_refused set e = refused set (empty_members set e)

pub same_truth : (a b : Bool) → (IsTrue a → b ≡ true) → (b ≡ true → IsTrue a) → a ≡ b
same_truth true b h k = sym (h refl)
same_truth false true h k = k refl
same_truth false false h k = refl

-- where neither a list nor a struct may stand, no value may where no scalar does
pub lacks_scalar : (row : Row) (found : Bool) → IsScalarSet row.value → row.list_ok ≡ false → row.struct_ok ≡ false → (IsTrue found → IsEmptySet row.value) × (IsEmptySet row.value → IsTrue found) → found ≡ lacks_value row
lacks_scalar row found form l s e =
    let same : found ≡ is_empty_set row.value = same_truth found (is_empty_set row.value)
    (λ h. refused_empty row.value form (refused row.value (e.0 h))) (λ h. e.1 (empty_members row.value h)) in
    simp (l, s) same
