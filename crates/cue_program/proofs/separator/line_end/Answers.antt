use Rattle.std.proofs.Common.{sym, subst}
use Rattle.cue_program.specs.inner.Taking.{IsLineEnd}
use Rattle.cue_program.proofs.Unfinished.{end_found, rest_unbroken}
use Rattle.cue_program.proofs.separator.line_end.Goals as goal

pub returns-in_err-length-clause-none : goal.returns-in_err-length-clause-none
returns-in_err-length-clause-none c = rw c.from_residual.ensures (rest_unbroken c.args.bytes.now (sym c.in_err-length.ensures))

pub returns-clause-ended : goal.returns-clause-ended
returns-clause-ended c = subst IsLineEnd (sym c.split_at.ensures.front) (end_found c.args.bytes.now c.in_ok-length.length (sym c.in_ok-length.ensures))
