use Rattle.std.proofs.Common.{inr}
use Rattle.cue_program.proofs.Calls.{on_err}
use Rattle.cue_program.proofs.atomic_write.overwrite.Goals as goal

pub returns-clause-stopped : goal.returns-clause-stopped
returns-clause-stopped g c =
    let touched = c.write_contents.ensures.touched c.args.name.now in
    on_err c.write_contents.result (inr (c.in_ok-file.file, c.open_to_write.new.self, c.in_ok-file.ensures, (touched.0, c.write_contents.new.file, touched.1)))
