use Rattle.cue_program.specs.Files.{texts_of_files}
use Rattle.cue_program.specs.Inputs.{inputs_of}
use Rattle.cue_wire.specs.Connections.{moment_of}
use Rattle.cue_command.specs.Networks.{NetworkReach, reach_of}
use Rattle.cue_command.proofs.Networks.{talk_answered, talk_stopped}
use Rattle.cue_command.proofs.network.loop_inputs.Goals as goal

pub returns-clause-answer : goal.returns-clause-answer
returns-clause-answer g c =
    let rt = c.args.rt.now in
    let n = g.H.Network in
    let source = g.H.Input.Source in
    let sink = g.H.Output.Sink in
    let reached : NetworkReach = reach_of (n.opens rt) (n.lets_in rt) (n.reaches rt) (n.joins rt) (n.fails rt) (moment_of source.given source.to_come sink.taken
    source.called sink.called source.failed sink.failed) in
    talk_answered rt reached.Loops (inputs_of (g.H.FileSystem.held rt) (texts_of_files c.args.files.now) (g.R.Read.remaining c.args.input.now)) c.in_ok-requests.requests.items
    c.deref.result.now c.loop_for.result c.end_run.result c.deref.ensures.value c.in_ok-requests.ensures.requests (c.loop_for.ensures.looped, c.loop_for.ensures.answer) c.end_run.ensures.answer

pub returns-clause-stop : goal.returns-clause-stop
returns-clause-stop g c =
    let rt = c.args.rt.now in
    let n = g.H.Network in
    let source = g.H.Input.Source in
    let sink = g.H.Output.Sink in
    let reached : NetworkReach = reach_of (n.opens rt) (n.lets_in rt) (n.reaches rt) (n.joins rt) (n.fails rt) (moment_of source.given source.to_come sink.taken
    source.called sink.called source.failed sink.failed) in
    talk_stopped rt reached.Loops (inputs_of (g.H.FileSystem.held rt) (texts_of_files c.args.files.now) (g.R.Read.remaining c.args.input.now)) c.in_ok-requests.requests.items
    c.deref.result.now c.loop_for.result c.end_run.result c.deref.ensures.value c.in_ok-requests.ensures.requests (c.loop_for.ensures.looped, c.loop_for.ensures.answer) c.end_run.ensures.stop
