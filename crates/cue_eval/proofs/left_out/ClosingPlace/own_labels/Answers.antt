use Rattle.std.proofs.Common.{⊎_elim, ap, subst}
use Rattle.cue_lattice.specs.Path.{label}
use Rattle.cue_row.specs.declared.step.Step.TheVariants.{Label}
use Rattle.cue_table.specs.Tree.{below, labels_of}
use Rattle.cue_eval.proofs.LabelTables.{IsLabelOf, own_label, next_label, no_index}
use Rattle.cue_eval.proofs.left_out.ClosingPlace.own_labels.Goals as goal

pub loop-label-preserved : goal.loop-label-preserved
loop-label-preserved c =
    let loop = c.loop-label in
    let same = ap label c.in_ok-from_str.ensures.text in
    rw c.in_ok-push.ensures.items (
      next_label (labels_of (below c.args.self.now.own)) loop.label-iterator c.next.new.self loop.steps.items (Label c.in_ok-from_str.field-0) c.in-Some.label.now c.in-Some.field-0-1 loop.invariant.0 c.in-Some.ensures.steps same,
      no_index loop.steps.items (Label c.in_ok-from_str.field-0) c.in-Some.label.now same loop.invariant.1,
    )

pub returns : goal.returns
returns c = record {
  all = λ text branch e. ⊎_elim (λ g. g) (λ g. absurd (subst (λ xs. IsLabelOf xs (label text)) c.in-None.ensures.steps.0 g))
      (c.loop-label.invariant.0 (label text) (own_label c.args.self.now.own text branch e));
  labels = c.loop-label.invariant.1;
}
