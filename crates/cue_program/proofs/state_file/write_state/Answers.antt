use Rattle.cue_program.proofs.Calls.{touches_none}
use Rattle.cue_program.proofs.state_file.write_state.Goals as goal

pub returns-in_err-piece-clause-touched : goal.returns-in_err-piece-clause-touched
returns-in_err-piece-clause-touched g c place = (0, touches_none g.S.FileSystem.makes place c.args.file.now c.args.shelf.now)

pub returns-in_err-state-clause-touched : goal.returns-in_err-state-clause-touched
returns-in_err-state-clause-touched g c place = (0, touches_none g.S.FileSystem.makes place c.args.file.now c.args.shelf.now)
