use Rattle.std.specs.Vec.Iter.{into_iter_items}
use Rattle.cue_sets.proofs.Ordered.{AreOrdered}
use Rattle.cue_sets.proofs.sorting.sort_texts.Given as goal

abbrev pub invariant-loop-text : goal.invariant-loop-text
invariant-loop-text l = AreOrdered l.sorted.items l.held (into_iter_items l.text-iterator) l.fn.texts.items
