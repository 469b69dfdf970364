use Rattle.std.proofs.Common.{sym, ap, min, ◌∙◌, arith}
use Rattle.cue_table.specs.Size.{tree_size, children_size}
use Rattle.cue_table.specs.Spans.{branches_of_spans}
use Rattle.cue_table.specs.StepsOfCode.{span_of}
use Rattle.cue_table.specs.Inner.Cursors.{spans_left}
use Rattle.cue_table.specs.Inner.View.{branches}
use Rattle.cue_table.proofs.Aligning.{none_there}
use Rattle.cue_table.proofs.Listing.{below_size}
use Rattle.cue_table.proofs.Nodes.{child_within, kept_as}
use Rattle.cue_table.proofs.Owned.{own_below}
use Rattle.cue_table.proofs.Spanned.{left_size}
use Rattle.cue_table.proofs.Ways.{same_behind, same_first, not_none, both_end, behind_smaller}
use Rattle.cue_table.proofs.+same.Goals.{same::same_below-then-not-same-via-then-not-same, same::same_below-then-not-same-via-else-not-same+then-not-same-2}
use Rattle.cue_table.proofs.+same.Goals as goal

pub node::Node::same-same_rest-requires : goal.node::Node::same-same_rest-requires
node::Node::same-same_rest-requires g t c κs within =
    let all = ap (λ x. tree_size x) c.self.view_is in
    (omega (arith, c.decreases, all), (within.0, within.1))

pub node::Node::same-same_branches-requires : goal.node::Node::same-same_branches-requires
node::Node::same-same_branches-requires g t c κs within =
    (omega (arith, c.decreases, below_size c.args.self.now), (within.0, within.1))

pub node::Node::same_branches-same_below-requires : goal.node::Node::same_branches-same_below-requires
node::Node::same_branches-same_below-requires g t c κs within =
    let all = ap children_size c.cursor.ensures.all in
    (omega (arith, c.decreases, all), (within.0, within.1))

pub node::Node::same_branches-same_children-requires : goal.node::Node::same_branches-same_children-requires
node::Node::same_branches-same_children-requires g t c κs within =
    let all = ap children_size (ap branches c.deref.ensures.value ∙ sym (own_below c.self.inside c.args.self.now c.self.view_is (none_there c.self.inside.rest c.is_none.result c.if-is_none.true c.is_none.ensures))) in
    (omega (arith, c.decreases, all), (within.0, within.1))

pub node::Node::same_branches-returns-then-is_none-2 : goal.node::Node::same_branches-returns-then-is_none-2
node::Node::same_branches-returns-then-is_none-2 g t c =
    let left = ap branches c.deref.ensures.value ∙ sym (own_below c.self.inside c.args.self.now c.self.view_is (none_there c.self.inside.rest c.is_none.result c.if-is_none.true c.is_none.ensures)) in
    let right = ap branches c.deref-then-is_none-2.ensures.value ∙ sym (own_below c.other.inside c.args.other.now c.other.view_is (none_there c.other.inside.rest c.is_none-then-is_none.result c.if-is_none-2.true c.is_none-then-is_none.ensures)) in (
      λ yes. sym left ∙ ap branches (c.same_children.ensures.0 yes) ∙ right,
      λ e. c.same_children.ensures.1 (kept_as c.deref.result.now c.deref-then-is_none-2.result.now (left ∙ e ∙ sym right)),
    )

pub same::same_children-same-requires-else-not-same : goal.same::same_children-same-requires-else-not-same
same::same_children-same-requires-else-not-same g t c κs within =
    let less = child_within c.loop-index.index c.args.left.now c.index-left-index.result c.loop-index-test.true in
    let all = ap (λ d. tree_size d.node) c.index-left-index.is in
    let one = ap tree_size c.node.ensures in
    (omega (arith, c.decreases, less, all, one), (within.0, within.1))

pub same::same_below-returns-in_default-next : goal.same::same_below-returns-in_default-next
same::same_below-returns-in_default-next g t c = (
  λ no. absurd (cc),
  λ h. absurd (not_none (span_of c.in-Some.span) c.in-Some.node.now (spans_left c.loop-span.left) (spans_left c.next.new.self) c.in-Some.ensures.some (c.loop-span.invariant.same.0 h ∙ ap branches_of_spans c.in_default-next.ensures.none)),
)

pub same::same_below-same-requires-else-not-same :
    goal.same::same_below-same-requires-else-not-same
same::same_below-same-requires-else-not-same g t c κs within =
    let size = left_size (span_of c.in-Some.span) c.in-Some.node.now (spans_left c.loop-span.left) (spans_left c.next.new.self) c.in-Some.ensures.some in
    (omega (arith, c.decreases, size, c.loop-span.invariant.smaller), (within.0, within.1))

pub same::same_below-returns-then-not-same : goal.same::same_below-returns-then-not-same
same::same_below-returns-then-not-same g t c = (
  λ no. absurd (cc),
  λ h. let both = same_first (span_of c.in-Some.span) (span_of c.in-Some-next.other_span) c.in-Some.node.now c.in-Some-next.other.now (spans_left c.loop-span.left) (spans_left c.next.new.self)
      (spans_left c.loop-span.right) (spans_left c.next-in-Some.new.self) c.in-Some.ensures.some c.in-Some-next.ensures.some (c.loop-span.invariant.same.0 h) in
      elim c.then-not-same.branch [
        | same::same_below-then-not-same-via-then-not-same w ↦ sym w.if-not-same.true ∙ c.same.ensures.1 (c.first.ensures ∙ both.0 ∙ sym c.first-in-Some.ensures)
        | same::same_below-then-not-same-via-else-not-same+then-not-same-2 w ↦ sym w.if-not-same-2.true ∙ w.same-else-not-same.ensures.1 both.1
      ],
)

pub same::same_below-loop-span-smaller : goal.same::same_below-loop-span-smaller
same::same_below-loop-span-smaller g t c =
    behind_smaller c.min-passed.result (span_of c.in-Some.span) c.in-Some.node.now (spans_left c.loop-span.left) (spans_left c.next.new.self) (spans_left c.put_back.new.self)
    (omega (arith, c.min-passed.ensures, c.more.ensures)) c.in-Some.ensures.some c.put_back.ensures

pub same::same_below-loop-span-preserved : goal.same::same_below-loop-span-preserved
same::same_below-loop-span-preserved g t c =
    let passed = c.min-passed.ensures ∙ (λ i. min (c.more.ensures i) (c.more-in-Some.ensures i)) in
    let steps = sym c.first.ensures ∙ c.same.ensures.0 c.if-not-same.false ∙ c.first-in-Some.ensures in
    let go = same_behind c.min-passed.result (span_of c.in-Some.span) (span_of c.in-Some-next.other_span) c.in-Some.node.now c.in-Some-next.other.now
    (spans_left c.loop-span.left) (spans_left c.next.new.self) (spans_left c.put_back.new.self) (spans_left c.loop-span.right) (spans_left c.next-in-Some.new.self) (spans_left c.put_back-in-Some.new.self)
    c.in-Some.ensures.some c.put_back.ensures c.in-Some-next.ensures.some c.put_back-in-Some.ensures passed steps (c.same-else-not-same.ensures.0 c.if-not-same-2.false) in
    let less = behind_smaller c.min-passed.result (span_of c.in-Some.span) c.in-Some.node.now (spans_left c.loop-span.left) (spans_left c.next.new.self) (spans_left c.put_back.new.self)
    (omega (arith, c.min-passed.ensures, c.more.ensures)) c.in-Some.ensures.some c.put_back.ensures in
    record {
      same = (λ h. go.0 (c.loop-span.invariant.same.0 h), λ h. c.loop-span.invariant.same.1 (go.1 h));
      smaller = omega (arith, less, c.loop-span.invariant.smaller);
    }

pub same::same_below-returns : goal.same::same_below-returns
same::same_below-returns g t c =
    let ends = both_end (spans_left c.loop-span.left) (spans_left c.loop-span.right) (spans_left c.next-2.new.self) (λ found. (span_of found.0, found.1.now)) c.next-2.result c.is_none.result
    c.is_none.ensures c.in_default.ensures.none c.next-2.ensures.none c.next-2.ensures.some in
    (λ yes. c.loop-span.invariant.same.1 (ends.0 yes), λ h. ends.1 (c.loop-span.invariant.same.0 h))
