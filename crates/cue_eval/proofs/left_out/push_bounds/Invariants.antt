use Rattle.std.specs.BinaryHeap.{IsHeap, heap_items}
use Rattle.std.specs.Ordering.{nat_cmp}
use Rattle.cue_table.specs.Form.{AreWithinDepth}
use Rattle.cue_table.specs.Spans.{branches_of_spans}
use Rattle.cue_table.specs.Tree.{below}
use Rattle.cue_eval.specs.Inner.Adding.{AreFew, AreKept}
use Rattle.cue_eval.proofs.Bounds.{AreLeft}
use Rattle.cue_eval.proofs.left_out.push_bounds.Given as goal

-- the bounds of the spans so far are there, and the spans that are left stand before what is alike
abbrev pub invariant-loop-span : goal.invariant-loop-span
invariant-loop-span g l =
    IsHeap nat_cmp (heap_items l.bounds)
    × AreKept (heap_items l.fn.bounds) (heap_items l.bounds)
    × AreLeft (below l.branch) (branches_of_spans l.span-iterator) (heap_items l.bounds)
    × AreFew (heap_items l.bounds)
    × AreWithinDepth l.fixed (branches_of_spans l.span-iterator)
