use Rattle.std.proofs.Common.{◌≡◌, true, false, sym, ◌∙◌, arith}
use Rattle.cue_layers.proofs.Naming.{none_yet, bad_at, far_more, far_all, bad_end, is_name}
use Rattle.cue_layers.proofs.names.bad_place.Goals as goal

pub loop-i-init : goal.loop-i-init
loop-i-init c = none_yet

pub returns-then-not-may_stand-clause-place : goal.returns-then-not-may_stand-clause-place
returns-then-not-may_stand-clause-place c =
    bad_at c.args.name.now c.loop-i.i c.loop-i.before c.loop-i-test.true c.loop-i.invariant (λ may. let e : true ≡ false = sym (c.may_stand.ensures.1 may) ∙ c.if-not-may_stand.true in cc)

pub loop-i-preserved : goal.loop-i-preserved
loop-i-preserved c =
    far_more c.args.name.now c.loop-i.i c.loop-i.before c.loop-i-test.true c.loop-i.invariant (c.may_stand.ensures.0 c.if-not-may_stand.false)

pub returns-then-before-eq47-clause-place : goal.returns-then-before-eq47-clause-place
returns-then-before-eq47-clause-place c =
    bad_end c.args.name.now c.loop-i.before (far_all c.args.name.now c.loop-i.i c.loop-i.before (omega arith) c.loop-i.invariant) c.if-before-eq47.true

pub returns-clause-name : goal.returns-clause-name
returns-clause-name c =
    is_name c.args.name.now c.loop-i.before (far_all c.args.name.now c.loop-i.i c.loop-i.before (omega arith) c.loop-i.invariant) c.if-before-eq47.false
