use Rattle.std.proofs.Common.{◌≡◌, ℕ, ◌+◌, ◌*◌, ◌-◌, ◌<◌, ◌≤◌, ◌++◌, length, take, drop}
use Rattle.cue_layers.specs.View.{IsTooLarge}
use Rattle.cue_layers.specs.Inner.Least.{IsLargePart}
use Rattle.cue_layers.proofs.least.leave_out_each.Given as goal

-- Where single layers are tried and none was left out, none of those in front can be.
abbrev pub invariant-places : goal.invariant-places
invariant-places l = record {
  part : IsLargePart l.limit l.fn.layers.items l.kept.items;
  within : l.at ≤ length l.kept.items;
  least : l.size ≡ 1 → length l.kept.items ≡ length l.fn.layers.items
      → (i : ℕ) → i < l.at → ¬ IsTooLarge l.limit (take i l.kept.items ++ drop (i + 1) l.kept.items);
}

-- a round leaves layers out, or goes on behind some
abbrev pub decreases-places : goal.decreases-places
decreases-places l = 2 * length l.kept.items - l.at
