-- When a row refuses nothing.
use Rattle.std.proofs.Common.{◌≡◌, ℕ, ◌+◌, Bool, true, false, List, Option, Some, None, refl, sym, ap, ◌∙◌, subst, arith}
use Rattle.std.proofs.lemmas.Bool.{false≢true}
use Rattle.cue_lattice.specs.declared.scalar.Scalar.{Scalar}
use Rattle.cue_scalars.specs.Scalars.{RefusesScalar}
use Rattle.cue_row.specs.declared.level.Level.TheVariants.{Optional}
use Rattle.cue_row.specs.declared.parts.RowParts.{RowParts as Row}
use Rattle.cue_row.specs.declared.question.Question.{Question}
use Rattle.cue_row.specs.declared.question.Question.TheVariants as questions
use Rattle.cue_row.specs.Levels.{level_of}
use Rattle.cue_row.specs.LabelSets.{RefusesLabel}
use Rattle.cue_row.specs.Lengths.{RefusesLength}
use Rattle.cue_row.specs.Inner.Forms.{AllowsAllForms}
use Rattle.cue_row.specs.Row.{RefusesAsked}
use Rattle.cue_row.specs.RowLaws.{same_level}

no_length : (most : Option ℕ) (n : ℕ) → most ≡ None → RefusesLength most n → ⊥
no_length most n e r = subst (λ (m : Option ℕ). RefusesLength m n) e r

pub not_false : (b : Bool) → (b ≡ false → ⊥) → b ≡ true
not_false true h = refl
not_false false h = absurd (h refl)

-- where no length is refused, there is no greatest length
pub no_greatest : (most : Option ℕ) → ((n : ℕ) → RefusesLength most n → ⊥) → most ≡ None
no_greatest None h = refl
no_greatest (Some m) h = absurd (h (m + 1) (omega arith))

-- a row whose parts refuse nothing
pub free_row :
    (row : Row) → AllowsAllForms row → ((x : Scalar) → ¬ RefusesScalar row.value x) → ((x : Scalar) → ¬ RefusesScalar row.usual x)
    → ((l : List ℕ) → ¬ RefusesLabel row.labels l) → (question : Question) → RefusesAsked row question → ⊥
free_row row forms value usual labels (questions.MayBe x) r = value x r
free_row row forms value usual labels (questions.Usual x) r = usual x r
free_row row forms value usual labels questions.Struct r = false≢true (sym r ∙ forms.struct_ok)
free_row row forms value usual labels questions.List r = false≢true (sym r ∙ forms.list_ok)
free_row row forms value usual labels (questions.Allows l) r = labels l r
free_row row forms value usual labels (questions.LevelAtMost k) r = let e = ap level_of forms.level in absurd (omega arith)
free_row row forms value usual labels (questions.LengthAtMost n) r = let e = forms.least in absurd (omega arith)
free_row row forms value usual labels (questions.LengthAtLeast n) r = no_length row.most n forms.most r

-- what a row that refuses nothing says of forms
pub forms_of_free : (row : Row) → ((question : Question) → ¬ RefusesAsked row question) → AllowsAllForms row
forms_of_free row free = record {
  level = let no = free (questions.LevelAtMost 0) in same_level row.level Optional (omega arith);
  struct_ok = not_false row.struct_ok (free questions.Struct);
  list_ok = not_false row.list_ok (free questions.List);
  least = let no = free (questions.LengthAtMost 0) in omega arith;
  most = no_greatest row.most (λ n. free (questions.LengthAtLeast n));
}
