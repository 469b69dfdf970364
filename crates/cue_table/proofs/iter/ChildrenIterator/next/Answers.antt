use Rattle.std.proofs.Common.{◌∷◌, length, sym, ◌∙◌, ap, subst, arith}
use Rattle.cue_table.specs.Form.{IsRowKept, AreBranches}
use Rattle.cue_table.specs.Spans.{branches_of_spans}
use Rattle.cue_table.specs.StepsOfCode.{span_of}
use Rattle.cue_table.specs.Inner.Cursors.{spans_left}
use Rattle.cue_table.specs.Tree.{children_of}
use Rattle.cue_table.proofs.Ways.{first_left, first_form}
use Rattle.cue_table.proofs.iter.ChildrenIterator.next.Goals as goal

pub invariant_of-self : goal.invariant_of-self
invariant_of-self g c =
    subst (λ spans. AreBranches (IsRowKept g.R.Narrow.refuses g.R.Narrow.is_value) (branches_of_spans spans)) (sym c.in_err-span.ensures.end) tt

pub returns-in_err-span-clause-steps : goal.returns-in_err-span-clause-steps
returns-in_err-span-clause-steps g c = rw c.from_residual.ensures (
  ap children_of (sym c.self.view_is) ∙ ap (λ spans. children_of (branches_of_spans spans)) c.in_err-span.ensures.none,
  ap (λ spans. children_of (branches_of_spans spans)) c.in_err-span.ensures.end,
)

pub new-requires : goal.new-requires
new-requires g c =
    let P = IsRowKept g.R.Narrow.refuses g.R.Narrow.is_value in
    let form = first_form P (span_of c.in_ok-span.span) c.in_ok-span.node.now (spans_left c.self.inside.left) (spans_left c.next.new.self) (spans_left c.put_back.new.self) c.in_ok-span.ensures.some c.put_back.ensures c.self.invariant in
    form.2

pub invariant_of-self-2 : goal.invariant_of-self-2
invariant_of-self-2 g c =
    let P = IsRowKept g.R.Narrow.refuses g.R.Narrow.is_value in
    let form = first_form P (span_of c.in_ok-span.span) c.in_ok-span.node.now (spans_left c.self.inside.left) (spans_left c.next.new.self) (spans_left c.put_back.new.self) c.in_ok-span.ensures.some c.put_back.ensures c.self.invariant in
    form.3

pub returns-clause-steps : goal.returns-clause-steps
returns-clause-steps g c =
    let first = first_left (span_of c.in_ok-span.span) c.in_ok-span.node.now (spans_left c.self.inside.left) (spans_left c.next.new.self) (spans_left c.put_back.new.self) c.in_ok-span.ensures.some c.put_back.ensures in
    ap children_of (sym c.self.view_is ∙ first) ∙ (λ i. (sym c.first.ensures i, sym c.new.ensures i) ∷ children_of (branches_of_spans (spans_left c.put_back.new.self)))

pub returns-clause-goes : goal.returns-clause-goes
returns-clause-goes g c =
    let first = first_left (span_of c.in_ok-span.span) c.in_ok-span.node.now (spans_left c.self.inside.left) (spans_left c.next.new.self) (spans_left c.put_back.new.self) c.in_ok-span.ensures.some c.put_back.ensures in
    let less = ap (λ cs. length (children_of cs)) (sym c.self.view_is ∙ first) in
    record { on = λ finite. (tt, tt, omega (arith, less)); keeps = tt; rests = λ finite. tt }
