use Rattle.cue_replica.specs.Language.{empty_site}
use Rattle.cue_wire.specs.Connections.{moment_of}
use Rattle.cue_net.specs.Doors.{ServedInTurn, ServesOver}
use Rattle.cue_net.proofs.serving.serve_from.Given as goal

-- so many connections were served
abbrev pub invariant-loop-served : goal.invariant-loop-served
invariant-loop-served g l =
    let source = g.H.Input.Source in
    let sink = g.H.Output.Sink in
    record {
      served : ServedInTurn (g.H.Network.lets_in l.rt) (ServesOver (moment_of source.given source.to_come sink.taken source.called sink.called source.failed sink.failed))
          l._served l.fn.door l.door empty_site l.site;
    }
