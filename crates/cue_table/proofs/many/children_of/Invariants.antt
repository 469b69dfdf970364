use Rattle.std.proofs.Common.{◌≡◌, ◌<◌, ◌++◌, All, map}
use Rattle.std.specs.Prelude.{filter}
use Rattle.std.specs.Vec.Iter.{into_iter_items}
use Rattle.cue_lattice.specs.Limits.{step_limit}
use Rattle.cue_table.specs.Depth.{tree_depth}
use Rattle.cue_table.specs.Inner.Given.{given_of, has_rows, IsBranch}
use Rattle.cue_table.proofs.many.children_of.Given as goal

-- the branches so far, and what is left with rows, are all with rows
abbrev pub invariant-loop-step : goal.invariant-loop-step
invariant-loop-step g l = record {
  same : map given_of l.children.items ++ filter has_rows (into_iter_items l.step-iterator) ≡ filter has_rows l.fn.given.items;
  made : All (IsBranch g.R.Narrow.refuses g.R.Narrow.is_value) l.children.items;
  low : All (λ one. tree_depth one.1 < step_limit) (into_iter_items l.step-iterator);
}
