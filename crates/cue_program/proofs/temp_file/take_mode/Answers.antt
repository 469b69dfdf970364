use Rattle.std.proofs.Common.{false}
use Rattle.cue_program.specs.Calls.{set_mode}
use Rattle.cue_program.proofs.Calls.{asking_touches, mode_touches, on_err, when_failed}
use Rattle.cue_program.proofs.temp_file.take_mode.Goals as goal

pub returns-clause-touched : goal.returns-clause-touched
returns-clause-touched g c =
    let makes = g.S.FileSystem.makes in
    let file = c.args.file.now in
    when_failed c.set_mode.result (λ done. makes c.mode_of.new.self (set_mode file c.in_ok-mode.mode done) c.set_mode.new.self) c.set_mode.ensures
    (λ made. (2, file, mode_touches makes c.args.place.now file c.in_ok-mode.mode false c.args.shelf.now c.mode_of.new.self c.set_mode.new.self c.in_ok-mode.ensures made))

pub returns-in_err-mode-clause-touched : goal.returns-in_err-mode-clause-touched
returns-in_err-mode-clause-touched g c =
    on_err c.from_residual.result (asking_touches g.S.FileSystem.makes c.args.place.now c.args.file.now c.args.shelf.now c.mode_of.new.self c.in_err-mode.ensures)
