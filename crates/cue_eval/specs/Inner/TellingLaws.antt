-- Beside `specs/TellingLaws.antt`: what private clauses and proofs alone cite.
use Rattle.std.proofs.Common.{◌≡◌, ℕ, List, Bool, true, false, not, refl, sym, ◌∙◌}
use Rattle.std.proofs.lemmas.Bool.{false≢true}
use Rattle.cue_sets.specs.Texts.{RefusesText}
use Rattle.cue_eval.specs.declared.declared.Declared.{Declared}
use Rattle.cue_eval.specs.declared.declared.DeclaredQuestion.{DeclaredQuestion}
use Rattle.cue_eval.specs.declared.declared.DeclaredQuestion.TheVariants.{Stands, Declares}
use Rattle.cue_eval.specs.Telling.{DeclaredRefuses}

-- nothing is told where no literal stands and no label is declared
pub free_declares_nothing : (d : Declared) → d.stands ≡ false → ((l : List ℕ) → ¬ RefusesText d.undeclared l)
    → (asked : DeclaredQuestion) → ¬ DeclaredRefuses d asked
free_declares_nothing d h k Stands e = false≢true (sym h ∙ e)
free_declares_nothing d h k (Declares l) e = k l e

-- a literal stands, or none does
pub none_stands : (b : Bool) → ¬ (b ≡ true) → not b ≡ true
none_stands true h = absurd (h refl)
none_stands false h = refl
