-- Rows that refuse all that others refuse, but for levels: which do, and that they are met to the same row at the greater level.
use Rattle.std.proofs.Common.{◌≡◌, ◌↔◌, ◌⊎◌, inl, inr, ⊎_elim, ℕ, ◌≤◌, true, false, List, Option, None, max, refl, sym, subst, arith}
use Rattle.std.proofs.lemmas.Bool.{false≢true}
use Rattle.cue_lattice.specs.declared.scalar.Scalar.{Scalar}
use Rattle.cue_lattice.specs.declared.scalar.Scalar.TheVariants as scalars
use Rattle.cue_scalars.specs.declared.scalar_set.ScalarSet.{ScalarSet}
use Rattle.cue_scalars.specs.Scalars.{RefusesScalar}
use Rattle.cue_row.specs.declared.level.Level.{Level}
use Rattle.cue_row.specs.declared.level.Level.TheVariants.{Given}
use Rattle.cue_row.specs.declared.parts.RowParts.{RowParts}
use Rattle.cue_row.specs.declared.question.Question.TheVariants as questions
use Rattle.cue_row.specs.declared.small.Small.TheVariants as small
use Rattle.cue_row.specs.Inner.Covers.{CoversRow}
use Rattle.cue_row.specs.Inner.Forms.{IsFormWithin}
use Rattle.cue_row.specs.Kept.{small_parts}
use Rattle.cue_row.specs.Kinds.{IsEmptySet}
use Rattle.cue_row.specs.LabelSets.{RefusesLabel}
use Rattle.cue_row.specs.Levels.{level_of}
use Rattle.cue_row.specs.Made.{empty_set, at_level}
use Rattle.cue_row.specs.Row.{IsMetRow}
use Rattle.cue_row.proofs.MetRows.{below_max}

-- ---- what covering is good for
-- nothing but the level changes where a row is unified that is covered
pub covered : (a b : RowParts) (level : Level) → CoversRow a b → level_of level ≡ max (level_of a.level) (level_of b.level) → IsMetRow a b (at_level level a)
covered a b level h l (questions.MayBe x) = (λ r. inl r, ⊎_elim (λ r. r) (h (questions.MayBe x)))
covered a b level h l (questions.Usual x) = (λ r. inl r, ⊎_elim (λ r. r) (h (questions.Usual x)))
covered a b level h l questions.Struct = (λ r. inl r, ⊎_elim (λ r. r) (h questions.Struct))
covered a b level h l questions.List = (λ r. inl r, ⊎_elim (λ r. r) (h questions.List))
covered a b level h l (questions.Allows x) = (λ r. inl r, ⊎_elim (λ r. r) (h (questions.Allows x)))
covered a b level h l (questions.LevelAtMost k) = below_max k (level_of a.level) (level_of b.level) (level_of level) l
covered a b level h l (questions.LengthAtMost n) = (λ r. inl r, ⊎_elim (λ r. r) (h (questions.LengthAtMost n)))
covered a b level h l (questions.LengthAtLeast n) = (λ r. inl r, ⊎_elim (λ r. r) (h (questions.LengthAtLeast n)))

turned : {A B C : Type 0} → A ↔ (B ⊎ C) → A ↔ (C ⊎ B)
turned h = (λ a. ⊎_elim (λ b. inr b) (λ c. inl c) (h.0 a), λ e. h.1 (⊎_elim (λ c. inr c) (λ b. inl b) e))

pub covered_by : (a b : RowParts) (level : Level) → CoversRow b a → level_of level ≡ max (level_of a.level) (level_of b.level) → IsMetRow a b (at_level level b)
covered_by a b level h l question = turned (covered b a level h (omega arith) question)

refused_when_empty : (set : ScalarSet) → IsEmptySet set → (x : Scalar) → RefusesScalar empty_set x → RefusesScalar set x
refused_when_empty set none scalars.Null r = none scalars.Null
refused_when_empty set none (scalars.Bool false) r = none (scalars.Bool false)
refused_when_empty set none (scalars.Bool true) r = none (scalars.Bool true)
refused_when_empty set none (scalars.Int n) r = (r.0, none (scalars.Int n))
refused_when_empty set none (scalars.Text t) r = none (scalars.Text t)

-- where neither scalars nor lists stand, a row covers a struct with any labels
pub covers_struct : (row : RowParts) (a b : Level) → row.list_ok ≡ false → IsEmptySet row.value → IsEmptySet row.usual → CoversRow (at_level a row) (small_parts b small.Struct)
covers_struct row a b list value usual (questions.MayBe x) r = refused_when_empty row.value value x r
covers_struct row a b list value usual (questions.Usual x) r = refused_when_empty row.usual usual x r
covers_struct row a b list value usual questions.Struct r = absurd (false≢true (sym r))
covers_struct row a b list value usual questions.List r = list
covers_struct row a b list value usual (questions.Allows x) r = absurd (false≢true (sym r))
covers_struct row a b list value usual (questions.LevelAtMost k) r = absurd (omega arith)
covers_struct row a b list value usual (questions.LengthAtMost n) r = absurd (omega arith)
covers_struct row a b list value usual (questions.LengthAtLeast n) r = absurd r

no_label : (labels : Option (List (List ℕ))) (l : List ℕ) → labels ≡ None → RefusesLabel labels l → ⊥
no_label labels l e r = false≢true (sym (subst (λ ls. RefusesLabel ls l) e r))

empty_refuses : (set : ScalarSet) (x : Scalar) → RefusesScalar set x → RefusesScalar empty_set x
empty_refuses set scalars.Null r = refl
empty_refuses set (scalars.Bool false) r = refl
empty_refuses set (scalars.Bool true) r = refl
empty_refuses set (scalars.Int n) r = (r.0, refl)
empty_refuses set (scalars.Text t) r = refl

-- a row that lets no scalar stand covers one that refuses no label, and fewer of structs, lists and lengths
pub form_covers : (row other : RowParts) (a b : Level) → IsFormWithin (at_level Given row) other → other.labels ≡ None → IsEmptySet row.value → IsEmptySet row.usual → CoversRow (at_level a row) (at_level b other)
form_covers row other a b form labels value usual (questions.MayBe x) r = refused_when_empty row.value value x (empty_refuses other.value x r)
form_covers row other a b form labels value usual (questions.Usual x) r = refused_when_empty row.usual usual x (empty_refuses other.usual x r)
form_covers row other a b form labels value usual questions.Struct r = form.struct_ok r
form_covers row other a b form labels value usual questions.List r = form.list_ok r
form_covers row other a b form labels value usual (questions.Allows x) r = absurd (no_label other.labels x labels r)
form_covers row other a b form labels value usual (questions.LevelAtMost k) r = absurd (omega arith)
form_covers row other a b form labels value usual (questions.LengthAtMost n) r = let h : other.least ≤ row.least = form.least in omega arith
form_covers row other a b form labels value usual (questions.LengthAtLeast n) r = form.most n r
