-- Which rows tell no single value.
use Rattle.std.proofs.Common.{◌≡◌, ◌↔◌, inl, inr, ⊎_elim, ◌<◌, Bool, true, false, not, Option, None, Some, refl, sym, ◌∙◌, arith}
use Rattle.std.specs.Prelude.{IfSome, IfNone, IsTrue}
use Rattle.std.specs.Option.{is_some}
use Rattle.std.proofs.lemmas.Bool.{false≢true}
use Rattle.cue_lattice.specs.declared.scalar.Scalar.{Scalar}
use Rattle.cue_row.specs.Chosen as rows
use Rattle.cue_row.specs.Levels.{level_of}
use Rattle.cue_row.specs.declared.level.Level.{Level}
use Rattle.cue_row.specs.declared.level.Level.TheVariants.{Optional, Required, Given}
use Rattle.cue_row.specs.Row.{IsRow}
use Rattle.cue_row.specs.declared.parts.RowParts.{RowParts as Row}
use Rattle.cue_report.specs.Inner.GapSearch.{IsOpenAt, IsGapAt}
use Rattle.cue_report.specs.Inner.Search.{lacks_value}
use Rattle.cue_report.proofs.Choice.{chosen_is}
use Rattle.cue_report.proofs.Rows.{NoValueAt, no_value_is, some_value}

has_value : (row : Row) → IsRow row → lacks_value row ≡ false → NoValueAt (Some row) → ⊥
has_value row f e n = false≢true (sym e ∙ (no_value_is (Some row) f).1 n)

-- where only scalars may stand, a value is open where none is chosen
pub open_chosen :
    (row : Row) (found : Option Scalar) (open_is : Bool) → IsRow row → lacks_value row ≡ false → row.struct_ok ≡ false → row.list_ok ≡ false
    → IfSome found (rows.IsRowChosen row) → IfNone found ((scalar : Scalar) → ¬ rows.IsRowChosen row scalar) → is_some found ≡ not open_is
    → IsTrue open_is ↔ IsOpenAt (Some row)
open_chosen row (Some x) true f v s l h n e = absurd (false≢true (sym e))
open_chosen row (Some x) false f v s l h n e = (
  λ t. absurd (false≢true t),
  λ o. absurd (⊎_elim (λ free. free.1 s) (λ none. none.3 x ((chosen_is row x f).0 h)) o),
)
open_chosen row None false f v s l h n e = absurd (false≢true e)
open_chosen row None true f v s l h n e = (
  λ t. inr (λ empty. has_value row f v (inl (empty, s, l)), s, l, λ x c. n x ((chosen_is row x f).1 c)),
  λ o. refl,
)

-- a place without a row is free
pub free_gap : IsGapAt None false
free_gap = record {
  has_value = some_value;
  missing_is = (λ t. absurd (false≢true t), λ m. absurd m.0);
  cause = inr (inl (λ scalar r. r, λ r. r, λ r. r));
}

asked_only : (level : Level) → level ≡ Required → (0 < level_of level) × (1 < level_of level → ⊥)
asked_only Required e = (omega arith, λ h. let no : ⊥ = omega arith in no)
asked_only Optional e = cc
asked_only Given e = cc

not_asked : (level : Level) → (level ≡ Required → ⊥) → (0 < level_of level) × (1 < level_of level → ⊥) → ⊥
not_asked Required n h = n refl
not_asked Optional n h = let low : 0 < 0 = h.0 in omega arith
not_asked Given n h = h.1 (omega arith)

pub missing_gap : (row : Row) → IsRow row → lacks_value row ≡ false → row.level ≡ Required → IsGapAt (Some row) true
missing_gap row f v e =
    let asked = asked_only row.level e in
    record { has_value = has_value row f v; missing_is = (λ t. asked, λ m. refl); cause = inl asked }

pub open_gap : (row : Row) → IsRow row → lacks_value row ≡ false → (row.level ≡ Required → ⊥) → IsOpenAt (Some row) → IsGapAt (Some row) false
open_gap row f v n o = record {
  has_value = has_value row f v;
  missing_is = (λ t. absurd (false≢true t), λ m. absurd (not_asked row.level n m));
  cause = inr o;
}

pub no_gap : (row : Row) (missing : Bool) → (row.level ≡ Required → ⊥) → (IsOpenAt (Some row) → ⊥) → IsGapAt (Some row) missing → ⊥
no_gap row missing n o g = ⊎_elim (λ m. not_asked row.level n m) (λ h. o h) g.cause
