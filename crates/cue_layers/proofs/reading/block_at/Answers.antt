use Rattle.std.proofs.Common.{arith}
use Rattle.cue_layers.proofs.ReadBytes.{block_none, block_cut, block_found}
use Rattle.cue_layers.proofs.reading.block_at.Goals as goal

pub returns-in_err-len-clause-none : goal.returns-in_err-len-clause-none
returns-in_err-len-clause-none c = rw c.from_residual.ensures (block_none c.args.bytes.now c.in_err-len.ensures)

pub returns-in_err-front-clause-none : goal.returns-in_err-front-clause-none
returns-in_err-front-clause-none c =
    rw c.from_residual-in_err-front.ensures (block_cut c.args.bytes.now c.in_ok-len.rest.now c.in_ok-len.len (λ i. omega (arith, c.type_inv.bytes i)) c.in_ok-len.ensures c.in_err-front.ensures.none)

pub returns-clause-some : goal.returns-clause-some
returns-clause-some c =
    block_found c.args.bytes.now c.in_ok-len.rest.now c.in_ok-front.front.now c.in_ok-front.rest.now c.in_ok-len.len (λ i. omega (arith, c.type_inv.bytes i)) c.in_ok-len.ensures c.in_ok-front.ensures.some.0 c.in_ok-front.ensures.some.1
