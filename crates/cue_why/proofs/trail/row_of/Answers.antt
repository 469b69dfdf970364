use Rattle.std.proofs.Common.{arith}
use Rattle.cue_lattice.specs.OneOf.{OneOf}
use Rattle.cue_policies.proofs.Gains.{gains_start, gains_more, gains_done}
use Rattle.cue_row.specs.Row.{RowRefusesQuestion}
use Rattle.cue_why.specs.Inner.Parts.{HoldsPart}
use Rattle.cue_why.proofs.Mets.{free_asked}
use Rattle.cue_why.proofs.trail.row_of.Goals as goal

pub loop-part-init : goal.loop-part-init
loop-part-init c = λ question.
    gains_start (RowRefusesQuestion c.in_ok-row.row question) (λ part. HoldsPart c.args.kind part question) c.args.parts.now (free_asked c.in_ok-row.row c.in_ok-row.ensures question)

pub loop-part-preserved : goal.loop-part-preserved
loop-part-preserved c = λ question.
    gains_more (RowRefusesQuestion c.loop-part.row question) (RowRefusesQuestion c.add_row.new.row question) (λ part. HoldsPart c.args.kind part question) c.args.parts.now c.loop-part.part-index c.part-item.result
    (OneOf (λ part. HoldsPart c.args.kind part question) c.args.parts.now)
    c.loop-part-test.true c.part-item.is (c.in_ok-add_row.ensures question) (c.loop-part.invariant question)

pub returns : goal.returns
returns c = λ question.
    gains_done (RowRefusesQuestion c.loop-part.row question) (λ part. HoldsPart c.args.kind part question) c.args.parts.now c.loop-part.part-index
    (OneOf (λ part. HoldsPart c.args.kind part question) c.args.parts.now)
    (omega (arith, c.loop-part-test.false)) (c.loop-part.invariant question)
