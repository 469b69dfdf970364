use Rattle.cue_wire.specs.Connections.{moment_of}
use Rattle.cue_command.specs.Networks.{NetworkReach, reach_of}
use Rattle.cue_command.proofs.Networks.{is_served, serving_answered, serving_stopped}
use Rattle.cue_command.proofs.network.serve_port.Goals as goal

pub returns-clause-answer : goal.returns-clause-answer
returns-clause-answer g c known =
    let rt = c.args.rt.now in
    let n = g.H.Network in
    let source = g.H.Input.Source in
    let sink = g.H.Output.Sink in
    let reached : NetworkReach = reach_of (n.opens rt) (n.lets_in rt) (n.reaches rt) (n.joins rt) (n.fails rt) (moment_of source.given source.to_come sink.taken
    source.called sink.called source.failed sink.failed) in
    serving_answered rt (reached.Serves c.args.port c.args.count) c.serve_for.result c.end_run.result
    (c.serve_for.ensures.served, is_served c.serve_for.result c.serve_for.ensures.export c.serve_for.ensures.halt) c.end_run.ensures.answer

pub returns-clause-stop : goal.returns-clause-stop
returns-clause-stop g c known =
    let rt = c.args.rt.now in
    let n = g.H.Network in
    let source = g.H.Input.Source in
    let sink = g.H.Output.Sink in
    let reached : NetworkReach = reach_of (n.opens rt) (n.lets_in rt) (n.reaches rt) (n.joins rt) (n.fails rt) (moment_of source.given source.to_come sink.taken
    source.called sink.called source.failed sink.failed) in
    serving_stopped rt (reached.Serves c.args.port c.args.count) c.serve_for.result c.end_run.result
    (c.serve_for.ensures.served, is_served c.serve_for.result c.serve_for.ensures.export c.serve_for.ensures.halt) c.end_run.ensures.stop
