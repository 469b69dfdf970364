use Rattle.std.proofs.Common.{[]}
use Rattle.cue_wire.proofs.Connections.{err_on}
use Rattle.cue_program.proofs.stdin_splitter.TextsInputReader.begin.Goals as goal

pub returns-clause-kept : goal.returns-clause-kept
returns-clause-kept c = c.in_ok-take.ensures.taken [] c.new.ensures

pub returns-in_err-take-clause-fault : goal.returns-in_err-take-clause-fault
returns-in_err-take-clause-fault c =
    err_on c.from_residual.result c.in_err-take.field-0.0 _ c.from_residual.ensures.1 (c.in_err-take.ensures.fault [] c.new.ensures)
