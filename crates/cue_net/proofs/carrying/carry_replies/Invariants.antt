use Rattle.std.proofs.Common.{◌≡◌, ◌+◌, ◌≤◌}
use Rattle.cue_net.proofs.Bringing.{Bringing}
use Rattle.cue_net.proofs.carrying.carry_replies.Given as goal

-- what was brought so far, and what is left
abbrev pub invariant-loop-rest : goal.invariant-loop-rest
invariant-loop-rest g l = record {
  brings : Bringing l.fn.bytes l.rest l.fn.hearing l.hearing (g.S.Source.given l.fn.source) (g.S.Source.given l.source)
      (g.S.Source.to_come l.fn.source) (g.S.Source.to_come l.source) (g.K.Sink.taken l.fn.sink) (g.K.Sink.taken l.sink) l.fn.left l.left;
  turns : g.S.Source.called l.source + g.K.Sink.called l.sink + l.left ≡ g.S.Source.called l.fn.source + g.K.Sink.called l.fn.sink + l.fn.left;
  reads : g.S.Source.called l.fn.source ≤ g.S.Source.called l.source;
  writes : g.K.Sink.called l.fn.sink ≤ g.K.Sink.called l.sink;
  sound : g.S.Source.failed l.source + g.K.Sink.failed l.sink ≡ g.S.Source.failed l.fn.source + g.K.Sink.failed l.fn.sink;
}

abbrev pub decreases-loop-rest : goal.decreases-loop-rest
decreases-loop-rest g l = l.left
