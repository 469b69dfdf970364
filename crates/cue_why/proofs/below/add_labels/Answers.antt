use Rattle.std.proofs.Common.{◌⊎◌, ◌∙◌}
use Rattle.cue_lattice.specs.Path.{label}
use Rattle.cue_policies.specs.declared.kind.LayerKind.TheVariants.{Policy}
use Rattle.cue_policies.proofs.Gains.{left_more, left_done}
use Rattle.cue_why.specs.Inner.Parts.{IsBelow, IsIn}
use Rattle.cue_why.proofs.Parts.{IsLabelBelow, labels_start}
use Rattle.cue_why.proofs.below.add_labels.Goals as goal

pub loop-own-init : goal.loop-own-init
loop-own-init c = λ next.
    labels_start c.args.label.now c.args.part.now next c.into_iter-own-iterator.result (IsIn next c.args.found.now.items)
    (c.into_iter-own-iterator.ensures.into_iter_gives ∙ c.labels-own-items.ensures.list)

pub loop-own-preserved : goal.loop-own-preserved
loop-own-preserved c = λ next.
    left_more (IsIn next c.loop-own.found.items) (IsIn next c.add_label.new.found.items) (IsLabelBelow c.args.label.now c.args.part.now next) c.loop-own.own-iterator c.next.new.self
    (c.in-Some.own.now, c.in-Some._branch) (IsIn next c.args.found.now.items ⊎ IsBelow Policy (label c.args.label.now) c.args.part.now next)
    c.in-Some.ensures.steps (c.in_ok-add_label.ensures next) (c.loop-own.invariant next)

pub returns : goal.returns
returns c = λ next.
    left_done (IsIn next c.loop-own.found.items) (IsLabelBelow c.args.label.now c.args.part.now next) c.loop-own.own-iterator
    (IsIn next c.args.found.now.items ⊎ IsBelow Policy (label c.args.label.now) c.args.part.now next) c.in-None.ensures.steps.0 (c.loop-own.invariant next)
