-- A row whose parts are met refuses what one of the two refuses.
use Rattle.std.proofs.Common.{◌≡◌, ◌↔◌, ◌⊎◌, inl, inr, ⊎_elim, ℕ, ◌<◌, max, ◌&&◌, List, arith}
use Rattle.cue_lattice.specs.declared.scalar.Scalar.{Scalar}
use Rattle.std.proofs.lemmas.Bool.{cases_lt}
use Rattle.cue_scalars.specs.Scalars.{RefusesScalar}
use Rattle.cue_scalars.proofs.Narrowed.{and_refuses}
use Rattle.cue_row.specs.declared.parts.RowParts.{RowParts as Row}
use Rattle.cue_row.specs.declared.question.Question.{Question}
use Rattle.cue_row.specs.declared.question.Question.TheVariants as questions
use Rattle.cue_row.specs.Levels.{level_of}
use Rattle.cue_row.specs.LabelSets.{RefusesLabel}
use Rattle.cue_row.specs.Lengths.{RefusesLength}
use Rattle.cue_row.specs.Row.{RefusesAsked}

-- below the greater of two numbers
pub below_max : (k m n x : ℕ) → x ≡ max m n → (k < x) ↔ ((k < m) ⊎ (k < n))
below_max k m n x e = (
  λ h. ⊎_elim (λ l. inl l) (λ g. inr (omega arith)) (cases_lt k m),
  λ h. ⊎_elim (λ l. omega arith) (λ l. omega arith) h,
)

-- a row refuses what one of two others refuses where each of its parts does so of theirs
pub met_rows :
    (a b m : Row) → level_of m.level ≡ max (level_of a.level) (level_of b.level)
    → ((x : Scalar) → RefusesScalar m.value x ↔ (RefusesScalar a.value x ⊎ RefusesScalar b.value x))
    → ((x : Scalar) → RefusesScalar m.usual x ↔ (RefusesScalar a.usual x ⊎ RefusesScalar b.usual x))
    → m.struct_ok ≡ (a.struct_ok && b.struct_ok) → m.list_ok ≡ (a.list_ok && b.list_ok)
    → ((l : List ℕ) → RefusesLabel m.labels l ↔ (RefusesLabel a.labels l ⊎ RefusesLabel b.labels l))
    → m.least ≡ max a.least b.least
    → ((n : ℕ) → RefusesLength m.most n ↔ (RefusesLength a.most n ⊎ RefusesLength b.most n))
    → (question : Question) → RefusesAsked m question ↔ (RefusesAsked a question ⊎ RefusesAsked b question)
met_rows a b m level value usual struct_ok list_ok labels least most (questions.MayBe x) = value x
met_rows a b m level value usual struct_ok list_ok labels least most (questions.Usual x) = usual x
met_rows a b m level value usual struct_ok list_ok labels least most questions.Struct = and_refuses a.struct_ok b.struct_ok m.struct_ok struct_ok
met_rows a b m level value usual struct_ok list_ok labels least most questions.List = and_refuses a.list_ok b.list_ok m.list_ok list_ok
met_rows a b m level value usual struct_ok list_ok labels least most (questions.Allows l) = labels l
met_rows a b m level value usual struct_ok list_ok labels least most (questions.LevelAtMost k) = below_max k (level_of a.level) (level_of b.level) (level_of m.level) level
met_rows a b m level value usual struct_ok list_ok labels least most (questions.LengthAtMost n) = below_max n a.least b.least m.least least
met_rows a b m level value usual struct_ok list_ok labels least most (questions.LengthAtLeast n) = most n
