use Rattle.std.proofs.Common.{◌≡◌, ◌<◌, ◌++◌, ℕ, length}
use Rattle.cue_service.specs.Conditions.{IsListed}
use Rattle.cue_service.proofs.conditions.lists.Given as goal

abbrev pub invariant-loop-at : goal.invariant-loop-at
invariant-loop-at l = (e : IsListed (l.mark ++ l.tag) l.field) → length e.before < l.at → ⊥
