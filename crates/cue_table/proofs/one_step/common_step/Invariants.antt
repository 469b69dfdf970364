use Rattle.std.proofs.Common.{◌≡◌, All, take}
use Rattle.cue_table.proofs.one_step.common_step.Given as goal

-- the branches so far stand at the step
abbrev pub invariant-loop-child : goal.invariant-loop-child
invariant-loop-child g l = All (λ child. child.step ≡ l.step) (take l.child-index l.children)
