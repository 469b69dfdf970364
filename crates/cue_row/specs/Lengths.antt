-- The greatest length of a list.
use Rattle.std.specs.Prelude.{ℕ, ◌<◌, Option, Some, None}

-- a greatest length refuses the lengths above it; without one none is refused
abbrev pub RefusesLength : Option ℕ → ℕ → Type 0
RefusesLength None n = ⊥
RefusesLength (Some most) n = most < n
