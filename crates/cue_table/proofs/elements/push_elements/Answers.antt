use Rattle.std.proofs.Common.{arith}
use Rattle.cue_table.specs.Inner.View.{branches, more_of}
use Rattle.cue_row.specs.Steps.{step_of}
use Rattle.std.proofs.Common.{ap, ◌∙◌}
use Rattle.cue_table.proofs.Stretches.{none_pushed, one_pushed, all_pushed}
use Rattle.cue_table.proofs.elements.push_elements.Goals as goal

pub loop-number-init : goal.loop-number-init
loop-number-init g c = none_pushed c.args.children.now.items c.args.run.now.first c.from-number.result c.args.run.now.node c.from-number.ensures

pub loop-number-preserved : goal.loop-number-preserved
loop-number-preserved g c =
    one_pushed (branches c.args.children.now.items) c.loop-number.children.items c.push.new.self.items c.in_ok-child.child c.args.run.now.first c.loop-number.number c.args.run.now.node
    (omega (arith, c.loop-number.auto.number, c.from-number.ensures)) c.in_ok-push.ensures.items (ap step_of c.in_ok-child.ensures.step) (c.in_ok-child.ensures.node ∙ c.in_ok-node.ensures) c.loop-number.invariant

pub returns : goal.returns
returns g c =
    all_pushed (branches c.args.children.now.items) c.loop-number.children.items c.args.run.now.first (more_of c.args.run.now.first c.args.run.now.more) c.loop-number.number c.args.run.now.node
    (omega (arith, c.loop-number.auto.number-end, c.loop-number-test.false, c.from-end.ensures, c.last.ensures, c.from-number.ensures)) c.loop-number.invariant
