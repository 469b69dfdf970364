use Rattle.std.proofs.Common.{◌≡◌, ◌∙◌, rules, All, sym, subst}
use Rattle.std.proofs.lemmas.List.{take_all}
use Rattle.cue_table.specs.Inner.Child.{Child}
use Rattle.cue_table.proofs.AtOneStep.{all_more}
use Rattle.cue_table.proofs.one_step.common_step.Goals as goal

pub loop-child-preserved : goal.loop-child-preserved
loop-child-preserved g c =
    all_more (λ (child : Child g.row.R.Denot). child.step ≡ c.step-step.result.now) c.args.children.now c.loop-child.child-index c.child-item.result c.loop-child-test.true c.child-item.is
    (sym c.step.ensures ∙ c.if-not-same.ensures.0 (search rules)) c.loop-child.invariant

pub returns : goal.returns
returns g c =
    subst (All (λ (child : Child g.row.R.Denot). child.step ≡ c.step-step.result.now)) (take_all c.loop-child.child-index c.args.children.now c.loop-child-test.false) c.loop-child.invariant
