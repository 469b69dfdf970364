use Rattle.std.proofs.Common.{◌≡◌, ◌+◌, drop, map}
use Rattle.std.specs.Option.{option_map}
use Rattle.cue_table.specs.SlotsOfCode.{slot_of}
use Rattle.cue_table.specs.Inner.Drafts.{staying_count}
use Rattle.cue_table.proofs.open.count_staying.Given as goal

-- as many as were gone past, and those of what is left
abbrev pub invariant-loop-count : goal.invariant-loop-count
invariant-loop-count g l = record {
  same : staying_count l.fn.above (map slot_of l.fn.slots) ≡ option_map (λ n. l.count + n) (staying_count (drop l.count l.fn.above) (map slot_of l.left));
  beyond : map slot_of l.left ≡ drop l.count (map slot_of l.fn.slots);
}
