-- What values that took others over refuse.
use Rattle.std.proofs.Common.{◌≡◌, ◌↔◌, ◌⊎◌, inl, ⊎_elim, Bool, true, false, ◌&&◌, List, ℕ, ℤ, inr, refl}
use Rattle.std.proofs.lemmas.Bool.{false≢true}
use Rattle.cue_lattice.specs.declared.narrow.Narrowed.{Narrowed}
use Rattle.cue_lattice.specs.declared.narrow.Narrowed.TheVariants.{Unchanged, To}
use Rattle.cue_lattice.specs.Narrowed.{IsNarrowedBy, value_after}
use Rattle.cue_lattice.specs.declared.scalar.Scalar.{Scalar}
use Rattle.cue_lattice.specs.declared.scalar.Scalar.TheVariants as scalars
use Rattle.cue_sets.specs.Pieces.{RefusesInteger}
use Rattle.cue_sets.specs.Texts.{RefusesText}
use Rattle.cue_scalars.specs.declared.scalar_set.ScalarSet.{ScalarSet}
use Rattle.cue_scalars.specs.Scalars.{RefusesScalar}

-- a value that took another over refuses exactly what one of the two refused
pub after-refuses :
    {N Q : Type 0} (refuses : N → Q → Type 0) (self other : N) (narrowed : Narrowed N) → IsNarrowedBy refuses self other narrowed
    → (question : Q) → refuses (value_after self narrowed) question ↔ (refuses self question ⊎ refuses other question)
after-refuses refuses self other Unchanged kept question = (λ r. inl r, ⊎_elim (λ r. r) (kept question))
after-refuses refuses self other (To met) both question = both question

-- both are true, or one is false
pub and_refuses : (a b m : Bool) → m ≡ (a && b) → (m ≡ false) ↔ ((a ≡ false) ⊎ (b ≡ false))
and_refuses true b m e = (λ h. inr (cc), λ h. ⊎_elim (λ f. absurd (false≢true (cc))) (λ f. cc) h)
and_refuses false b m e = (λ h. inl refl, λ h. e)

-- a set whose parts are met
pub met_parts :
    (a b m : ScalarSet) → m.null ≡ (a.null && b.null) → m.no ≡ (a.no && b.no) → m.yes ≡ (a.yes && b.yes)
    → ((n : ℤ) → RefusesInteger m.ints n ↔ (RefusesInteger a.ints n ⊎ RefusesInteger b.ints n))
    → ((t : List ℕ) → RefusesText m.texts t ↔ (RefusesText a.texts t ⊎ RefusesText b.texts t))
    → (x : Scalar) → RefusesScalar m x ↔ (RefusesScalar a x ⊎ RefusesScalar b x)
met_parts a b m null_is no_is yes_is ints texts scalars.Null = and_refuses a.null b.null m.null null_is
met_parts a b m null_is no_is yes_is ints texts (scalars.Bool false) = and_refuses a.no b.no m.no no_is
met_parts a b m null_is no_is yes_is ints texts (scalars.Bool true) = and_refuses a.yes b.yes m.yes yes_is
met_parts a b m null_is no_is yes_is ints texts (scalars.Int n) = ints n
met_parts a b m null_is no_is yes_is ints texts (scalars.Text t) = texts t
