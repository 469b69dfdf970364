use Rattle.std.proofs.Common.{All}
use Rattle.std.specs.Vec.Iter.{into_iter_items}
use Rattle.cue_table.specs.Inner.Given.{IsBranch}
use Rattle.cue_table.proofs.AtOneStep.{PutTogether}
use Rattle.cue_table.proofs.one_step.unify_places.Given as goal

-- the row, the branches below places, the other places and what is left are all
abbrev pub invariant-loop-place : goal.invariant-loop-place
invariant-loop-place g l = record {
  made : All (IsBranch g.R.Narrow.refuses g.R.Narrow.is_value) l.below.items;
  left : All (IsBranch g.R.Narrow.refuses g.R.Narrow.is_value) (into_iter_items l.place-iterator);
  all : PutTogether g.R.Narrow.refuses l.row l.below.items l.others.items (into_iter_items l.place-iterator) l.fn.places.items;
}
