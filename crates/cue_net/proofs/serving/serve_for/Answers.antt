use Rattle.std.proofs.Common.{inr}
use Rattle.cue_wire.specs.Connections.{moment_of}
use Rattle.cue_net.specs.Doors.{ServesOver}
use Rattle.cue_net.proofs.Passages.{exports, halts_of}
use Rattle.cue_net.proofs.serving.serve_for.Goals as goal

pub returns-clause-served : goal.returns-clause-served
returns-clause-served g c = inr (c.in_ok-door.door, c.serve_from.new.door, c.in_ok-door.ensures.opened, c.serve_from.ensures)

pub returns-clause-export : goal.returns-clause-export
returns-clause-export g c =
    let source = g.H.Input.Source in
    let sink = g.H.Output.Sink in
    exports (g.H.Network.opens c.args.rt.now c.args.port) (g.H.Network.lets_in c.args.rt.now)
    (moment_of source.given source.to_come sink.taken source.called sink.called source.failed sink.failed) (g.H.Network.fails c.args.rt.now) c.args.count c.serve_from.result
    (inr (c.in_ok-door.door, c.serve_from.new.door, c.in_ok-door.ensures.opened, c.serve_from.ensures))

pub returns-clause-halt : goal.returns-clause-halt
returns-clause-halt g c =
    let source = g.H.Input.Source in
    let sink = g.H.Output.Sink in
    halts_of (g.H.Network.opens c.args.rt.now c.args.port) (g.H.Network.lets_in c.args.rt.now)
    (ServesOver (moment_of source.given source.to_come sink.taken source.called sink.called source.failed sink.failed)) (g.H.Network.fails c.args.rt.now) c.args.count c.serve_from.result
    (inr (c.in_ok-door.door, c.serve_from.new.door, c.in_ok-door.ensures.opened, c.serve_from.ensures))
