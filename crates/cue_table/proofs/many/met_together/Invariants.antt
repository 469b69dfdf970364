use Rattle.std.proofs.Common.{All, None}
use Rattle.std.specs.Vec.Iter.{into_iter_items}
use Rattle.cue_table.specs.Inner.Form.{StepsRise}
use Rattle.cue_table.specs.Inner.Given.{IsBranch}
use Rattle.cue_table.specs.Inner.View.{branches}
use Rattle.cue_table.specs.Tree.{node, no_rest}
use Rattle.cue_table.proofs.Hanging.{RefuseTogether}
use Rattle.cue_table.proofs.many.met_together.Given as goal

-- the branches that rise, the tables beside them and what is left are all
abbrev pub invariant-loop-child : goal.invariant-loop-child
invariant-loop-child g l = record {
  rise : StepsRise (branches l.front.items);
  made : All (IsBranch g.R.Narrow.refuses g.R.Narrow.is_value) l.front.items;
  left : All (IsBranch g.R.Narrow.refuses g.R.Narrow.is_value) (into_iter_items l.child-iterator);
  all : RefuseTogether g.R.Narrow.refuses (node None (branches l.front.items) no_rest) l.others.items (into_iter_items l.child-iterator) l.fn.children.items;
}
