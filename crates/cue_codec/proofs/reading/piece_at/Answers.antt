use Rattle.std.proofs.Common.{arith}
use Rattle.cue_codec.proofs.Numbers.{piece_short, piece_half, piece_found}
use Rattle.cue_codec.proofs.reading.piece_at.Goals as goal

pub returns-in_err-first-clause-none : goal.returns-in_err-first-clause-none
returns-in_err-first-clause-none c = rw c.from_residual.ensures (piece_short c.args.bytes.now (omega (arith, c.in_err-first.ensures.none)))

pub returns-in_err-last-clause-none : goal.returns-in_err-last-clause-none
returns-in_err-last-clause-none c =
    rw c.from_residual-in_err-last.ensures (piece_short c.args.bytes.now (piece_half c.args.bytes.now c.in_ok-first.rest.now c.in_ok-first.first c.in_ok-first.ensures.some c.in_err-last.ensures.none))

pub returns-clause-some : goal.returns-clause-some
returns-clause-some c =
    piece_found c.args.bytes.now c.in_ok-first.rest.now c.in_ok-last.rest.now c.in_ok-first.first c.in_ok-last.last c.in_ok-first.ensures.some c.in_ok-last.ensures.some
