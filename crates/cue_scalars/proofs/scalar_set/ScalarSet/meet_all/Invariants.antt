use Rattle.std.specs.Vec.Iter.{into_iter_items}
use Rattle.cue_scalars.proofs.Meets.{AreTaken}
use Rattle.cue_scalars.proofs.scalar_set.ScalarSet.meet_all.Given as goal

abbrev pub invariant-loop-set : goal.invariant-loop-set
invariant-loop-set l = AreTaken l.null l.no l.yes l.ints.items l.texts.items (into_iter_items l.set-iterator) l.fn.sets.items
