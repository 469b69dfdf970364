use Rattle.std.proofs.Common.{◌≡◌, ◌+◌, ◌≤◌, ◌++◌, List, ℕ, length}
use Rattle.cue_wire.specs.Inner.Parts.{IsPartServed}
use Rattle.cue_wire.specs.Frames.{IsUnfinished}
use Rattle.cue_wire.specs.Sessions.{reading}
use Rattle.cue_wire.proofs.connection.serve_piece.Given as goal

-- what stands before the rest of the piece was served, in parts
abbrev pub invariant-loop-rest : goal.invariant-loop-rest
invariant-loop-rest g l = record {
  served : (kept : List ℕ) → l.fn.session ≡ reading kept → IsUnfinished kept
      → (stream : List ℕ) × (kept ++ l.fn.piece ≡ stream ++ l.rest)
      × IsPartServed stream l.session l.fn.site l.site l.out.items (g.K.Sink.taken l.fn.sink) (g.K.Sink.taken l.sink) l.fn.left l.left;
  turns : g.K.Sink.called l.sink + l.left ≡ g.K.Sink.called l.fn.sink + l.fn.left;
  fewer : l.left ≤ l.fn.left;
  sound : g.K.Sink.failed l.sink ≡ g.K.Sink.failed l.fn.sink;
}

abbrev pub decreases-loop-rest : goal.decreases-loop-rest
decreases-loop-rest g l = length l.rest
