use Rattle.std.proofs.Common.{map, string_bytes}
use Rattle.cue_program.specs.Outlets.{passage_of}
use Rattle.cue_wire.specs.Connections.{moment_of}
use Rattle.cue_command.specs.Networks.{reach_of}
use Rattle.cue_command.specs.Runs.{RunWorld, run_world}
use Rattle.cue_command.proofs.Replies.{run_of_reply}
use Rattle.cue_command.proofs.acting.act.Goals as goal

pub returns-in-Ok : goal.returns-in-Ok
returns-in-Ok g c =
    let rt = c.args.rt.now in
    let n = g.H.Network in
    let source = g.H.Input.Source in
    let sink = g.H.Output.Sink in
    let at : RunWorld = run_world g.H.FileSystem.held g.H.FileSystem.makes (reach_of (n.opens rt) (n.lets_in rt) (n.reaches rt) (n.joins rt) (n.fails rt) (moment_of source.given source.to_come
    sink.taken source.called sink.called source.failed sink.failed)) rt c.reply_to.new.rt (g.R.Read.remaining c.args.input.now) in
    run_of_reply (map string_bytes c.args.words.now) at (passage_of g.W.Write.contents c.args.out.now c.show-status.new.out)
    (passage_of g.F.Write.contents c.args.faults.now c.show-status.new.faults) c.show-status.result c.in-Ok.reply c.in-Ok.ensures.reply c.show-status.ensures
