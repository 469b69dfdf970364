use Rattle.std.proofs.Common.{◌≡◌, ◌↔◌, ◌+◌, ◌*◌, ◌≤◌, take}
use Rattle.cue_table.specs.Size.{tree_size, children_size, rest_size}
use Rattle.cue_table.specs.Spans.{branches_of_spans}
use Rattle.cue_table.specs.Tree.{below}
use Rattle.cue_table.specs.Inner.Cursors.{spans_left}
use Rattle.cue_table.specs.Inner.View.{branches, rest_in}
use Rattle.cue_table.proofs.+same.Given as goal

abbrev pub decreases-node::Node::same : goal.decreases-node::Node::same
decreases-node::Node::same g l = 3 * tree_size l.self.now

abbrev pub decreases-node::Node::same_branches : goal.decreases-node::Node::same_branches
decreases-node::Node::same_branches g l = 3 * children_size (below l.self.now) + 2

abbrev pub decreases-same::same_below : goal.decreases-same::same_below
decreases-same::same_below g l = 3 * children_size (branches_of_spans (spans_left l.left)) + 1

abbrev pub decreases-same::same_rest : goal.decreases-same::same_rest
decreases-same::same_rest g l = 3 * rest_size (rest_in l.left.now) + 1

abbrev pub decreases-same::same_children : goal.decreases-same::same_children
decreases-same::same_children g l = 3 * children_size (branches l.left.now) + 1

-- what is left on both ways decides whether they are the same
abbrev pub invariant-same::same_below-loop-span : goal.invariant-same::same_below-loop-span
invariant-same::same_below-loop-span g l = record {
  same : (branches_of_spans (spans_left l.fn.left) ≡ branches_of_spans (spans_left l.fn.right)) ↔ (branches_of_spans (spans_left l.left) ≡ branches_of_spans (spans_left l.right));
  smaller : children_size (branches_of_spans (spans_left l.left)) ≤ children_size (branches_of_spans (spans_left l.fn.left));
}

abbrev pub decreases-same::same_below-loop-span : goal.decreases-same::same_below-loop-span
decreases-same::same_below-loop-span g l = children_size (branches_of_spans (spans_left l.left))

-- both are the same so far
abbrev pub invariant-same::same_children-loop-index : goal.invariant-same::same_children-loop-index
invariant-same::same_children-loop-index g l = take l.index l.left ≡ take l.index l.right
