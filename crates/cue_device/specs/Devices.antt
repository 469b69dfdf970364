-- What a call of a device does to its counts.
use Rattle.std.specs.Prelude.{◌≡◌, ℕ, ◌+◌, Result, Ok, Err}

-- one call more, and one failure more where it failed
abbrev pub Counts : {T E : Type 0} → Result T E → ℕ → ℕ → ℕ → ℕ → Type 0
Counts (Ok n) calls failures calls' failures' =
    (calls' ≡ calls + 1) × (failures' ≡ failures)
Counts (Err e) calls failures calls' failures' =
    (calls' ≡ calls + 1) × (failures' ≡ failures + 1)
