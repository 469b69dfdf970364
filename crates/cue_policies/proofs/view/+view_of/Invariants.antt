use Rattle.std.proofs.Common.{◌≤◌}
use Rattle.std.specs.Vec.Iter.{into_iter_items}
use Rattle.cue_policies.specs.Inner.Parts.{most_depth}
use Rattle.cue_policies.proofs.Fields.{AreFieldsSoFar}
use Rattle.cue_policies.proofs.Sizes.{AreApart, rows_of_fields}
use Rattle.cue_policies.proofs.view.+view_of.Given as goal

abbrev pub decreases-view_of : goal.decreases-view_of
decreases-view_of l = most_depth l.parts.now

-- each label is one of a field, or still to come, and the fields have at least so many rows
abbrev pub invariant-loop-label : goal.invariant-loop-label
invariant-loop-label l = record {
  fields : AreFieldsSoFar l.parts (into_iter_items l.label-iterator) l.fields.items;
  apart : AreApart (into_iter_items l.label-iterator) l.fields.items;
  counted : l.rows ≤ rows_of_fields l.fields.items;
  within : l.rows ≤ l.most;
}
