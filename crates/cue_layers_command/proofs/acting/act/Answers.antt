use Rattle.std.proofs.Common.{map, string_bytes}
use Rattle.cue_program.specs.Outlets.{passage_of}
use Rattle.cue_layers_command.specs.Runs.{LayersRunWorld, layers_run_world}
use Rattle.cue_layers_command.specs.Words.{asked_by_arguments}
use Rattle.cue_layers_command.proofs.Replies.{run_of_end}
use Rattle.cue_layers_command.proofs.acting.act.Goals as goal

pub returns-in-Ok : goal.returns-in-Ok
returns-in-Ok g c =
    let at : LayersRunWorld = layers_run_world g.H.FileSystem.held g.H.FileSystem.makes c.args.rt.now c.perform.new.rt (g.R.Read.remaining c.args.input.now) in
    run_of_end (map string_bytes c.args.words.now) (asked_by_arguments c.in-Ok.command) at (passage_of g.W.Write.contents c.args.out.now c.perform.new.out)
    (passage_of g.F.Write.contents c.args.faults.now c.perform.new.faults) c.perform.result c.in-Ok.ensures.asks c.perform.ensures
