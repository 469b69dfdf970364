use Rattle.std.proofs.Common.{◌⊎◌, ◌∙◌}
use Rattle.cue_policies.specs.Inner.Parts.{HasLabel, IsIn}
use Rattle.cue_policies.proofs.Gains.{left_more, left_done}
use Rattle.cue_policies.proofs.Gathering.{IsLabelOf, labels_left}
use Rattle.cue_policies.proofs.names.add_labels.Goals as goal

pub loop-label-init : goal.loop-label-init
loop-label-init c = λ text.
    labels_left c.args.patterns c.args.part.now c.into_iter-label-iterator.result (IsIn text c.args.labels.now.items) text
    (c.into_iter-label-iterator.ensures.into_iter_gives ∙ c.labels-label-items.ensures.list)

pub loop-label-preserved : goal.loop-label-preserved
loop-label-preserved c = λ text.
    left_more (IsIn text c.loop-label.labels.items) (IsIn text c.add_label.new.labels.items) (IsLabelOf c.args.patterns c.args.part.now.role text) c.loop-label.label-iterator c.next.new.self
    (c.in-Some.label.now, c.in-Some._branch) (IsIn text c.args.labels.now.items ⊎ HasLabel c.args.patterns c.args.part.now text)
    c.in-Some.ensures.steps (c.in_ok-add_label.ensures text) (c.loop-label.invariant text)

pub returns : goal.returns
returns c = λ text.
    left_done (IsIn text c.loop-label.labels.items) (IsLabelOf c.args.patterns c.args.part.now.role text) c.loop-label.label-iterator
    (IsIn text c.args.labels.now.items ⊎ HasLabel c.args.patterns c.args.part.now text) c.in-None.ensures.steps.0 (c.loop-label.invariant text)
