use Rattle.std.proofs.Common.{arith}
use Rattle.cue_layers.proofs.Heads.{no_revision, no_size, head_parts}
use Rattle.cue_layers.proofs.stage.head_of.Goals as goal

pub returns-in_err-revision-clause-none : goal.returns-in_err-revision-clause-none
returns-in_err-revision-clause-none c =
    absurd (no_revision c.args.len c.args.bytes.now c.split_at.result.1.now (λ i. omega (arith, c.type_inv.bytes i)) c.requires c.split_at.ensures.back c.in_err-revision.ensures)

pub returns-in_err-size-clause-none : goal.returns-in_err-size-clause-none
returns-in_err-size-clause-none c =
    absurd (no_size c.args.len c.args.bytes.now c.split_at.result.1.now (λ i. omega (arith, c.type_inv.bytes i)) c.requires c.split_at.ensures.back c.in_ok-revision.revision c.in_ok-revision.rest.now c.in_ok-revision.ensures c.in_err-size.ensures)

pub returns-clause-some : goal.returns-clause-some
returns-clause-some c =
    head_parts c.args.len c.args.bytes.now c.split_at.result.1.now (λ i. omega (arith, c.type_inv.bytes i)) c.requires c.split_at.ensures.back (omega (arith, c.ranges.len.fits)) c.in_ok-revision.revision c.in_ok-size.size c.split_at.result.0.now c.in_ok-revision.rest.now c.in_ok-size.state.now c.split_at.ensures.front c.in_ok-revision.ensures c.in_ok-size.ensures
