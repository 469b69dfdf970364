use Rattle.std.proofs.Common.{sym, ◌∙◌, subst}
use Rattle.cue_table.specs.Form.{IsRowKept, AreBranches}
use Rattle.cue_table.specs.Spans.{branches_of_spans}
use Rattle.cue_table.specs.StepsOfCode.{span_of}
use Rattle.cue_table.specs.Inner.Cursors.{spans_left}
use Rattle.cue_table.proofs.Ways.{left_form}
use Rattle.cue_table.proofs.iter.SpansIterator.next.Goals as goal

pub invariant_of-self : goal.invariant_of-self
invariant_of-self g c =
    subst (λ spans. AreBranches (IsRowKept g.R.Narrow.refuses g.R.Narrow.is_value) (branches_of_spans spans)) (sym c.in_err-span.ensures.end) tt

pub returns-in_err-span-clause-steps : goal.returns-in_err-span-clause-steps
returns-in_err-span-clause-steps g c = rw c.from_residual.ensures (sym c.self.view_is ∙ c.in_err-span.ensures.none, c.in_err-span.ensures.end)

pub new-requires : goal.new-requires
new-requires g c =
    let P = IsRowKept g.R.Narrow.refuses g.R.Narrow.is_value in
    let form = left_form P (span_of c.in_ok-span.span) c.in_ok-span.node.now (spans_left c.self.inside.left) (spans_left c.next.new.self) c.in_ok-span.ensures.some c.self.invariant in
    form.0

pub invariant_of-self-2 : goal.invariant_of-self-2
invariant_of-self-2 g c =
    let P = IsRowKept g.R.Narrow.refuses g.R.Narrow.is_value in
    let form = left_form P (span_of c.in_ok-span.span) c.in_ok-span.node.now (spans_left c.self.inside.left) (spans_left c.next.new.self) c.in_ok-span.ensures.some c.self.invariant in
    form.1
