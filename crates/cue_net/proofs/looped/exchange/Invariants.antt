use Rattle.std.proofs.Common.{◌≡◌, ◌+◌, ◌≤◌, ◌++◌, ℕ, List, flat_map, Ok}
use Rattle.cue_wire.specs.Clients.{request_frame}
use Rattle.cue_net.specs.Inner.Looping.{ExchangedFrames}
use Rattle.cue_net.proofs.looped.exchange.Given as goal

-- the front of the frames is exchanged, and the rest is left
abbrev pub invariant-loop-rest : goal.invariant-loop-rest
invariant-loop-rest g l = record {
  exchanged : (front : List ℕ) × (flat_map request_frame l.fn.requests ≡ front ++ l.rest)
      × ExchangedFrames (Ok tt) front l.fn.hearing l.hearing l.fn.serving.session l.serving.session l.fn.serving.site l.serving.site
      (g.S.Source.given l.fn.near.source) (g.S.Source.given l.near.source) (g.S.Source.to_come l.fn.near.source) (g.S.Source.to_come l.near.source)
      (g.K.Sink.taken l.fn.near.sink) (g.K.Sink.taken l.near.sink)
      (g.S.Source.given l.fn.far.source) (g.S.Source.given l.far.source) (g.S.Source.to_come l.fn.far.source) (g.S.Source.to_come l.far.source)
      (g.K.Sink.taken l.fn.far.sink) (g.K.Sink.taken l.far.sink) l.fn.left l.left
      (g.S.Source.failed l.fn.near.source + g.K.Sink.failed l.fn.near.sink + g.S.Source.failed l.fn.far.source + g.K.Sink.failed l.fn.far.sink)
      (g.S.Source.failed l.near.source + g.K.Sink.failed l.near.sink + g.S.Source.failed l.far.source + g.K.Sink.failed l.far.sink);
  turns : g.S.Source.called l.near.source + g.K.Sink.called l.near.sink + g.S.Source.called l.far.source + g.K.Sink.called l.far.sink + l.left
      ≡ g.S.Source.called l.fn.near.source + g.K.Sink.called l.fn.near.sink + g.S.Source.called l.fn.far.source + g.K.Sink.called l.fn.far.sink + l.fn.left;
  heard : g.S.Source.called l.fn.near.source ≤ g.S.Source.called l.near.source;
  sent : g.K.Sink.called l.fn.near.sink ≤ g.K.Sink.called l.near.sink;
  read : g.S.Source.called l.fn.far.source ≤ g.S.Source.called l.far.source;
  told : g.K.Sink.called l.fn.far.sink ≤ g.K.Sink.called l.far.sink;
  sound : g.S.Source.failed l.near.source + g.K.Sink.failed l.near.sink + g.S.Source.failed l.far.source + g.K.Sink.failed l.far.sink
      ≡ g.S.Source.failed l.fn.near.source + g.K.Sink.failed l.fn.near.sink + g.S.Source.failed l.fn.far.source + g.K.Sink.failed l.fn.far.sink;
}

abbrev pub decreases-loop-rest : goal.decreases-loop-rest
decreases-loop-rest g l = l.left
