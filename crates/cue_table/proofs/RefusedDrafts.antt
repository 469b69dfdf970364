-- Drafts that go on, are refused, or were refused before.
use Rattle.std.proofs.Common.{◌≡◌, List, ◌∷◌, ◌++◌, [], Option, Some, None, refl, sym, ap, subst, ◌∙◌}
use Rattle.std.specs.Prelude.{Bool, false, true, unwrap_or}
use Rattle.std.proofs.lemmas.Option.{none-some}
use Rattle.cue_table.specs.RowList.{Appends, BeginsNoTable}
use Rattle.cue_table.specs.Slots.{Place}
use Rattle.cue_table.specs.Inner.Drafts.{unless_refused}

-- what a draft has that was not refused
pub not_refused : {R : Type 0} (refused : Bool) (rows : List (Place × R)) → refused ≡ false → unless_refused refused rows ≡ Some rows
not_refused refused rows is = ap (λ b. unless_refused b rows) is

pub same_rows : {R : Type 0} (rows other : List (Place × R)) → Some rows ≡ Some other → rows ≡ other
same_rows rows other e = ap (λ o. unwrap_or o rows) e

-- and one that was refused
pub was_refused : {R : Type 0} (refused : Bool) (rows : List (Place × R)) → refused ≡ true → (other : List (Place × R)) → Some other ≡ unless_refused refused rows → ⊥
was_refused refused rows is other e = none-some other (sym (e ∙ ap (λ b. unless_refused b rows) is))

-- the draft goes on, is refused, or was refused before
module _ {R Q : Type 0} (refuses : R → Q → Type 0) (is_value : R → Type 0) (refused : Bool) (rows : List (Place × R)) (old : Option (List (Place × R))) (place : Place) (row : R) (is : unless_refused refused rows ≡ old) where
  pub draft_goes_on : (more : List (Place × R)) → refused ≡ false → more ≡ rows ++ (place, row) ∷ [] → Appends refuses is_value old place row (unless_refused refused more) true
  draft_goes_on more goes e =
      subst (λ o. Appends refuses is_value o place row (unless_refused refused more) true) is
      (subst (λ b. Appends refuses is_value (unless_refused b rows) place row (unless_refused b more) true) (sym goes) (ap Some e))

  pub draft_is_refused : (new : Option (List (Place × R))) → refused ≡ false → new ≡ None → BeginsNoTable refuses is_value (rows ++ (place, row) ∷ []) → Appends refuses is_value old place row new false
  draft_is_refused new goes gone begins =
      subst (λ o. Appends refuses is_value o place row new false) is
      (subst (λ b. Appends refuses is_value (unless_refused b rows) place row new false) (sym goes) (gone, begins))

  pub draft_stays_refused : refused ≡ true → Appends refuses is_value old place row old false
  draft_stays_refused was =
      subst (λ o. Appends refuses is_value o place row o false) is
      (subst (λ b. Appends refuses is_value (unless_refused b rows) place row (unless_refused b rows) false) (sym was) refl)
