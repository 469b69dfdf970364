use Rattle.std.proofs.Common.{◌≡◌, ◌++◌, drop, map}
use Rattle.cue_table.specs.SlotsOfCode.{slot_of}
use Rattle.cue_table.specs.Tree.{empty}
use Rattle.cue_table.specs.Inner.Drafts.{opened_along}
use Rattle.cue_table.proofs.open.open_along.Given as goal

-- with what is left, all come to be open
abbrev pub invariant-loop-slot : goal.invariant-loop-slot
invariant-loop-slot g l = l.above.items ++ opened_along empty (map slot_of (drop l.slot-index l.slots)) ≡ l.initial.above.items ++ opened_along empty (map slot_of l.fn.slots)
