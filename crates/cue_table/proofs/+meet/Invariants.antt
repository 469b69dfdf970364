use Rattle.std.proofs.Common.{◌≡◌, ◌<◌, ◌+◌, ◌-◌, ◌*◌}
use Rattle.std.specs.Option.{option_map}
use Rattle.std.specs.Vec.Iter.{into_iter_items, into_iter_len}
use Rattle.cue_table.specs.Depth.{tree_depth, children_depth}
use Rattle.cue_table.specs.Inner.Sides.{IsAt}
use Rattle.cue_table.specs.Inner.View.{branches}
use Rattle.cue_table.proofs.Changing.{GoesOn}
use Rattle.cue_table.proofs.Sweeping.{IsMetUpTo, found_depth}
use Rattle.cue_table.proofs.+meet.Given as goal

abbrev pub decreases-meet::meet_one : goal.decreases-meet::meet_one
decreases-meet::meet_one g l = 8 * tree_depth l.other.node + 9

abbrev pub decreases-meet::meet_child : goal.decreases-meet::meet_child
decreases-meet::meet_child g l = 8 * tree_depth l.right + 8

abbrev pub decreases-changes::change_by : goal.decreases-changes::change_by
decreases-changes::change_by g l = 8 * tree_depth l.other.node + 9

abbrev pub decreases-changes::unify_with : goal.decreases-changes::unify_with
decreases-changes::unify_with g l = 8 * tree_depth l.other.node + 8

abbrev pub decreases-meet::unify_child : goal.decreases-meet::unify_child
decreases-meet::unify_child g l = 8 * tree_depth l.right + 7

abbrev pub decreases-lists::meet_whole : goal.decreases-lists::meet_whole
decreases-lists::meet_whole g l = 8 * tree_depth l.right.now + 7

abbrev pub decreases-meet::meet_nodes : goal.decreases-meet::meet_nodes
decreases-meet::meet_nodes g l = 8 * tree_depth l.right + 6

abbrev pub decreases-meet::meet_into : goal.decreases-meet::meet_into
decreases-meet::meet_into g l = 8 * tree_depth l.right + 6

abbrev pub decreases-meet::meet_own : goal.decreases-meet::meet_own
decreases-meet::meet_own g l = 8 * tree_depth l.right + 5

abbrev pub decreases-lists::meet_lists : goal.decreases-lists::meet_lists
decreases-lists::meet_lists g l = 8 * tree_depth l.right.now + 5

abbrev pub decreases-lists::meet_elements : goal.decreases-lists::meet_elements
decreases-lists::meet_elements g l = 8 * tree_depth l.right.now + 4

abbrev pub decreases-lists::meet_element : goal.decreases-lists::meet_element
decreases-lists::meet_element g l = 8 * tree_depth l.right.now.place.now + 3

abbrev pub decreases-meet::meet_below : goal.decreases-meet::meet_below
decreases-meet::meet_below g l = 8 * children_depth (branches l.right.items) + 4

abbrev pub decreases-meet::meet_branches : goal.decreases-meet::meet_branches
decreases-meet::meet_branches g l = 8 * children_depth (branches l.right.items) + 4

abbrev pub decreases-changes::changes : goal.decreases-changes::changes
decreases-changes::changes g l = 8 * children_depth (branches l.right.items) + 2

abbrev pub decreases-lists::meet_found : goal.decreases-lists::meet_found
decreases-lists::meet_found g l = 8 * found_depth (option_map (λ node. node.now) l.right) + 1

abbrev pub invariant-changes::changes-loop-other : goal.invariant-changes::changes-loop-other
invariant-changes::changes-loop-other g l =
    GoesOn g.R.Narrow.refuses g.R.Narrow.is_value l.left l.fn.right.items l.rest (into_iter_items l.others) l.past l.changes.items

abbrev pub decreases-changes::changes-loop-other : goal.decreases-changes::changes-loop-other
decreases-changes::changes-loop-other g l = into_iter_len l.others

abbrev pub invariant-lists::meet_elements-loop-at : goal.invariant-lists::meet_elements-loop-at
invariant-lists::meet_elements-loop-at g l = record {
  sweeps : IsMetUpTo g.R.Narrow.refuses g.R.Narrow.is_value l.left l.right l.fixed l.runs.items l.at;
  further : l.further ≡ l.initial.further;
  on_left : l.at < l.fixed → IsAt l.left l.at l.on_left;
  on_right : l.at < l.fixed → IsAt l.right l.at l.on_right;
}

abbrev pub decreases-lists::meet_elements-loop-at : goal.decreases-lists::meet_elements-loop-at
decreases-lists::meet_elements-loop-at g l = l.fixed - l.at
