use Rattle.std.proofs.Common.{arith}
use Rattle.std.specs.Int.{w64}
use Rattle.cue_codec.proofs.Numbers.{integer_found, number_missing}
use Rattle.cue_codec.proofs.reading.i64_at.Goals as goal

pub returns-in_err-number-clause-none : goal.returns-in_err-number-clause-none
returns-in_err-number-clause-none c = rw c.from_residual.ensures (number_missing w64 c.args.bytes.now c.in_err-number.ensures)

pub returns-clause-some : goal.returns-clause-some
returns-clause-some c =
    integer_found c.args.bytes.now c.in_ok-number.rest.now c.in_ok-number.number c.cast_signed.result (λ i. omega (arith, c.type_inv.bytes i)) c.in_ok-number.ensures c.cast_signed.ensures
