use Rattle.std.proofs.Common.{◌≡◌, take}
use Rattle.cue_table.proofs.node.copy_children.Given as goal

abbrev pub invariant-loop-child : goal.invariant-loop-child
invariant-loop-child g l = l.copied.items ≡ take l.child-index l.children
