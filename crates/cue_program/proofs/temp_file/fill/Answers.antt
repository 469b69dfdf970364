use Rattle.cue_program.proofs.Calls.{not_synced, on_err, taken_and_touched, taken_then}
use Rattle.cue_program.proofs.temp_file.fill.Goals as goal

pub returns-in_err-write_contents-clause-touched : goal.returns-in_err-write_contents-clause-touched
returns-in_err-write_contents-clause-touched g c =
    let place = c.args.place.now in
    on_err c.from_residual-in_err-write_contents.result (taken_and_touched g.S.FileSystem.makes place c.args.is_file c.args.file c.write_contents.new.file
    c.args.shelf.now c.take_mode.new.shelf c.write_contents.new.shelf c.in_ok-take_mode.ensures.taken (c.write_contents.ensures.touched place))

pub returns-in_err-sync-clause-touched : goal.returns-in_err-sync-clause-touched
returns-in_err-sync-clause-touched g c =
    let makes = g.S.FileSystem.makes in
    let place = c.args.place.now in
    on_err c.from_residual-in_err-sync.result (not_synced makes place c.args.file c.write_contents.new.file c.args.shelf.now c.write_contents.new.shelf c.sync.new.self
    (taken_then makes place c.args.is_file c.args.file c.write_contents.new.file
    c.args.shelf.now c.take_mode.new.shelf c.write_contents.new.shelf c.in_ok-take_mode.ensures.taken (c.write_contents.ensures.touched place)) c.in_err-sync.ensures)
