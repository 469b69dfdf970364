use Rattle.std.proofs.Common.{arith}
use Rattle.cue_layers.proofs.ReadBytes.{wide_none, wide_found}
use Rattle.cue_layers.proofs.reading.wide_at.Goals as goal

pub returns-in_err-number-clause-none : goal.returns-in_err-number-clause-none
returns-in_err-number-clause-none c = rw c.from_residual.ensures (wide_none c.args.bytes.now c.in_err-number.ensures)

pub returns-clause-some : goal.returns-clause-some
returns-clause-some c = wide_found c.args.bytes.now c.in_ok-number.rest.now c.in_ok-number.number (λ i. omega (arith, c.type_inv.bytes i)) c.in_ok-number.ensures
