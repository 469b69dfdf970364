-- One step of a sweep over the numbers: from where both sets go on as they are to the earlier one of the ends of two runs.
use Rattle.std.proofs.Common.{◌≡◌, ◌<◌, ℤ, pos, ◌+ℤ◌, ◌-ℤ◌, ◌≤ℤ◌, SFits, to_z, of_z, w64, arith}
use Rattle.std.specs.Prelude.{unsigned_abs}
use Rattle.std.specs.Int.{int_min}
use Rattle.std.proofs.lemmas.Int.{ints, clamps}
use Rattle.cue_sets.specs.Pieces.{greatest}

-- `last` is where the first of the two runs ends
pub record IsStep (from left right last : ℤ) : Type 0 where
  pub forward : from ≤ℤ last
  pub to_left : last ≤ℤ left
  pub to_right : last ≤ℤ right
  pub fits : SFits w64 last

-- the number after `last`, as the code computes it
abbrev pub after : ℤ → ℤ
after last = to_z w64 (of_z w64 (to_z w64 (of_z w64 last) +ℤ pos 1))

-- where both runs go on from `from`, the lesser of their ends ends the step
pub IsStep-of :
    (from left right last : ℤ) → SFits w64 left → SFits w64 right → from ≤ℤ left → from ≤ℤ right
    → last ≡ int_min (to_z w64 (of_z w64 left)) (to_z w64 (of_z w64 right)) → IsStep from left right last
IsStep-of from left right last f g h k e = record {
  forward = omega (arith, ints, clamps);
  to_left = omega (arith, ints, clamps);
  to_right = omega (arith, ints, clamps);
  fits = omega (arith, ints, clamps);
}

-- where the last number is not the greatest one
pub after_is : (last : ℤ) → SFits w64 last → (of_z w64 last ≡ 9223372036854775807 → ⊥) → after last ≡ last +ℤ pos 1
after_is last f h = omega (arith, ints)

-- where it is
pub after_greatest : (last : ℤ) → SFits w64 last → of_z w64 last ≡ 9223372036854775807 → greatest +ℤ pos 1 ≡ last +ℤ pos 1
after_greatest last f h = omega (arith, ints)

-- a number of 64 bits is at most the greatest
pub to_greatest : (last : ℤ) → SFits w64 last → last ≤ℤ greatest
to_greatest last f = omega (arith, ints)

-- less is left above the number after `last` than above `from`
pub falls : (from last : ℤ) → from ≤ℤ last → SFits w64 last → (of_z w64 last ≡ 9223372036854775807 → ⊥) → unsigned_abs (greatest -ℤ after last) < unsigned_abs (greatest -ℤ from)
falls from last h f k = omega (arith, ints)

-- what is at most a lesser number is at most a greater one
pub le_le : (a b c : ℤ) → a ≤ℤ b → b ≤ℤ c → a ≤ℤ c
le_le a b c h k = omega (arith, ints)

-- the next step begins no earlier
pub onward : (from last next : ℤ) → from ≤ℤ last → next ≡ last +ℤ pos 1 → from ≤ℤ next
onward from last next h e = omega (arith, ints)

-- right before it, the run still goes on
pub back_to : (last next to : ℤ) → last ≤ℤ to → next ≡ last +ℤ pos 1 → (next -ℤ pos 1) ≤ℤ to
back_to last next to h e = omega (arith, ints)
