-- Truth values that the definitions and laws of several crates use.
use Rattle.std.proofs.Common.{◌≡◌, Bool, true, false, List, [], ◌∷◌, refl, sym}

-- whether a list has no element
abbrev pub is_nil : {X : Type 0} → List X → Bool
is_nil [] = true
is_nil (x ∷ xs) = false

-- two truth values that are false together are equal
pub bool_same : (a b : Bool) → (a ≡ false → b ≡ false) → (b ≡ false → a ≡ false) → a ≡ b
bool_same false b h k = sym (h refl)
bool_same true true h k = refl
bool_same true false h k = k refl
