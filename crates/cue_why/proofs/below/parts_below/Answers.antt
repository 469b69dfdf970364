use Rattle.std.proofs.Common.{◌≡◌, arith}
use Rattle.cue_lattice.specs.OneOf.{OneOf}
use Rattle.cue_policies.proofs.Gains.{gains_start, gains_more, gains_done, none_in}
use Rattle.cue_row.specs.Steps.{step_of}
use Rattle.cue_why.specs.Inner.Parts.{IsBelow, IsIn}
use Rattle.cue_why.proofs.below.parts_below.Goals as goal

pub loop-part-init : goal.loop-part-init
loop-part-init c = λ next.
    gains_start (IsIn next c.new-found.result.items) (λ part. IsBelow c.args.kind (step_of c.args.step.now) part next) c.args.parts.now
    (none_in (λ y. y ≡ next) c.new-found.result.items c.new-found.ensures.items)

pub loop-part-preserved : goal.loop-part-preserved
loop-part-preserved c = λ next.
    gains_more (IsIn next c.loop-part.found.items) (IsIn next c.add_below.new.found.items) (λ part. IsBelow c.args.kind (step_of c.args.step.now) part next) c.args.parts.now c.loop-part.part-index c.part-item.result
    (OneOf (λ part. IsBelow c.args.kind (step_of c.args.step.now) part next) c.args.parts.now)
    c.loop-part-test.true c.part-item.is (c.in_ok-add_below.ensures next) (c.loop-part.invariant next)

pub returns : goal.returns
returns c = λ next.
    gains_done (IsIn next c.loop-part.found.items) (λ part. IsBelow c.args.kind (step_of c.args.step.now) part next) c.args.parts.now c.loop-part.part-index
    (OneOf (λ part. IsBelow c.args.kind (step_of c.args.step.now) part next) c.args.parts.now)
    (omega (arith, c.loop-part-test.false)) (c.loop-part.invariant next)
