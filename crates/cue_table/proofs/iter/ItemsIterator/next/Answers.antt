use Rattle.std.proofs.Common.{sym, ◌∙◌, ap, subst}
use Rattle.cue_table.specs.Form.{IsRowKept, AreBranches, StartsAtIndex}
use Rattle.cue_table.specs.Spans.{branches_of_spans}
use Rattle.cue_table.specs.Tree.{items_of}
use Rattle.cue_table.proofs.iter.ItemsIterator.next.Goals as goal

pub invariant_of-self : goal.invariant_of-self
invariant_of-self g c =
    subst (λ spans. AreBranches (IsRowKept g.R.Narrow.refuses g.R.Narrow.is_value) (branches_of_spans spans) × StartsAtIndex (branches_of_spans spans)) (sym c.in_err-span.ensures.end) (tt, tt)

pub returns-in_err-span-clause-steps : goal.returns-in_err-span-clause-steps
returns-in_err-span-clause-steps g c = rw c.from_residual.ensures (
  sym c.self.view_is ∙ ap (λ spans. items_of (branches_of_spans spans)) c.in_err-span.ensures.none,
  ap (λ spans. items_of (branches_of_spans spans)) c.in_err-span.ensures.end,
)
