use Rattle.std.proofs.Common.{map, ap, ◌∙◌, arith}
use Rattle.std.proofs.lemmas.List.{take_all}
use Rattle.cue_table.specs.StepsOfCode.{step_at}
use Rattle.cue_report.proofs.Trails.{trail_more}
use Rattle.cue_report.proofs.place.copy_steps.Goals as goal

pub loop-step-preserved : goal.loop-step-preserved
loop-step-preserved c =
    trail_more c.args.steps.now c.loop-step.step-index c.step-item.result c.in_ok-to_step.field-0 c.loop-step.copies.items c.push.new.self.items
    c.loop-step-test.true c.step-item.is c.in_ok-to_step.ensures c.loop-step.invariant c.in_ok-push.ensures.items

pub returns : goal.returns
returns c = c.loop-step.invariant ∙ ap (map step_at) (take_all c.loop-step.step-index c.args.steps.now (omega arith))
