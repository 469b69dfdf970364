-- Laws of what struct literals declare.
use Rattle.std.proofs.Common.{◌≡◌, ◌↔◌, Bool, true, false, refl, sym}
use Rattle.cue_sets.specs.TextLaws.{same_texts}
use Rattle.cue_eval.specs.declared.declared.Declared.{Declared}
use Rattle.cue_eval.specs.declared.declared.DeclaredQuestion.{DeclaredQuestion}
use Rattle.cue_eval.specs.declared.declared.DeclaredQuestion.TheVariants.{Stands, Declares}
use Rattle.cue_eval.specs.Telling.{DeclaredRefuses, IsDeclaredLabel}

same_flag : (a b : Bool) → (a ≡ true → b ≡ true) → (b ≡ true → a ≡ true) → a ≡ b
same_flag true b h k = sym (h refl)
same_flag false true h k = k refl
same_flag false false h k = refl

-- equal answers are equal values
pub same_declared : (a b : Declared) → IsDeclaredLabel a → IsDeclaredLabel b
    → ((asked : DeclaredQuestion) → DeclaredRefuses a asked ↔ DeclaredRefuses b asked) → a ≡ b
same_declared a b p q e =
    let stands = same_flag a.stands b.stands (e Stands).0 (e Stands).1 in
    let undeclared = same_texts a.undeclared b.undeclared p q (λ l. e (Declares l)) in
    λ i. record { stands = stands i; undeclared = undeclared i }
