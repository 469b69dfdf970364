use Rattle.cue_program.specs.Outlets.{passage_of}
use Rattle.cue_layers_command.specs.Runs.{LayersRunWorld, layers_run_world}
use Rattle.cue_layers_command.specs.Words.{asked_by_arguments}
use Rattle.cue_layers_command.proofs.Replies.{end_of_reply}
use Rattle.cue_layers_command.proofs.acting.perform.Goals as goal

pub returns-in-Ok : goal.returns-in-Ok
returns-in-Ok g c =
    let at : LayersRunWorld = layers_run_world g.H.FileSystem.held g.H.FileSystem.makes c.args.rt.now c.reply_for.new.rt (g.R.Read.remaining c.args.input.now) in
    end_of_reply (asked_by_arguments c.args.command.now) at (passage_of g.W.Write.contents c.args.out.now c.show.new.out)
    (passage_of g.F.Write.contents c.args.faults.now c.show.new.faults) c.show.result c.in-Ok.reply c.in-Ok.ensures.reply c.show.ensures
