use Rattle.std.proofs.Common.{inr}
use Rattle.cue_program.specs.Contents.{bytes_of_contents}
use Rattle.cue_program.proofs.Calls.{fills_touch, on_err}
use Rattle.cue_program.proofs.temp_file.fill_and_move.Goals as goal

pub returns-in_err-rename-clause-stopped : goal.returns-in_err-rename-clause-stopped
returns-in_err-rename-clause-stopped g c =
    let touched = fills_touch g.S.FileSystem.makes c.args.place.now (bytes_of_contents c.args.contents.now) c.args.is_file c.args.file c.args.shelf.now c.fill.new.shelf c.in_ok-fill.ensures.filled in
    on_err c.from_residual-in_err-rename.result (c.fill.new.shelf, touched, inr c.in_err-rename.ensures)
