use Rattle.std.proofs.Common.{◌≡◌, arith}
use Rattle.std.proofs.lemmas.Result.{IfOk-weaker}
use Rattle.cue_lattice.specs.OneOf.{OneOf}
use Rattle.cue_policies.specs.Inner.Parts.{HasLabel, IsIn}
use Rattle.cue_policies.proofs.Gains.{gains_start, gains_more, gains_done, none_in}
use Rattle.cue_policies.proofs.names.labels_of.Goals as goal

pub loop-part-init : goal.loop-part-init
loop-part-init c = λ text.
    gains_start (IsIn text c.new-labels.result.items) (λ part. HasLabel c.args.patterns part text) c.args.parts.now
    (none_in (λ y. y ≡ text) c.new-labels.result.items c.new-labels.ensures.items)

pub loop-part-preserved : goal.loop-part-preserved
loop-part-preserved c = λ text.
    gains_more (IsIn text c.loop-part.labels.items) (IsIn text c.add_labels.new.labels.items) (λ part. HasLabel c.args.patterns part text) c.args.parts.now c.loop-part.part-index c.part-item.result
    (OneOf (λ part. HasLabel c.args.patterns part text) c.args.parts.now)
    c.loop-part-test.true c.part-item.is (c.in_ok-add_labels.ensures text) (c.loop-part.invariant text)

pub returns-clause-labels : goal.returns-clause-labels
returns-clause-labels c =
    let old = c.loop-part.labels.items in
    IfOk-weaker c.in_order.result _ _ (λ kept same text.
    let all = gains_done (IsIn text old) (λ part. HasLabel c.args.patterns part text) c.args.parts.now c.loop-part.part-index (OneOf (λ part. HasLabel c.args.patterns part text) c.args.parts.now)
    (omega (arith, c.loop-part-test.false)) (c.loop-part.invariant text) in (
      λ h. all.0 ((same text).0 h),
      λ h. (same text).1 (all.1 h),
    )) c.in_order.ensures.same
