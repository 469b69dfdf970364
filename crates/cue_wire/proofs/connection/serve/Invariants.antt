use Rattle.std.proofs.Common.{◌≡◌, ◌+◌, ◌≤◌, length}
use Rattle.cue_wire.specs.Connections.{calls, failures, moment_of}
use Rattle.cue_wire.proofs.Connections.{SoFar}
use Rattle.cue_wire.proofs.connection.serve.Given as goal

-- all replies to what was read so far are written, and the calls and the turns left are all turns
abbrev pub invariant-loop-left : goal.invariant-loop-left
invariant-loop-left g l =
    let source = g.S.Source in
    let sink = g.K.Sink in
    let at = moment_of source.given source.to_come sink.taken source.called sink.called source.failed sink.failed in
    record {
      so_far : SoFar l.fn.site l.site l.session (at l.fn.source l.fn.sink) (at l.source l.sink);
      turns : source.called l.source + sink.called l.sink + l.left ≡ source.called l.fn.source + sink.called l.fn.sink + l.fn.turns;
      reads : source.called l.fn.source ≤ source.called l.source;
      writes : sink.called l.fn.sink ≤ sink.called l.sink;
      sound : source.failed l.source + sink.failed l.sink ≡ source.failed l.fn.source + sink.failed l.fn.sink;
      room : length l.piece ≡ 4096;
    }

abbrev pub decreases-loop-left : goal.decreases-loop-left
decreases-loop-left g l = l.left
