use Rattle.std.proofs.Common.{◌≡◌, ◌+◌, ◌≤◌, ◌++◌, ℕ, List, length}
use Rattle.std.specs.Io.KnownBytes.{Appends}
use Rattle.cue_wire.proofs.connection.write_all.Given as goal

-- what was written so far, a byte at least for each turn, and what is left
abbrev pub invariant-loop-rest : goal.invariant-loop-rest
invariant-loop-rest g l = record {
  written : (front : List ℕ) × (l.fn.bytes ≡ front ++ l.rest) × Appends (g.K.Sink.taken l.fn.sink) (g.K.Sink.taken l.sink) front
      × (l.fn.left ≤ l.left + length front);
  turns : g.K.Sink.called l.sink + l.left ≡ g.K.Sink.called l.fn.sink + l.fn.left;
  fewer : l.left ≤ l.fn.left;
  sound : g.K.Sink.failed l.sink ≡ g.K.Sink.failed l.fn.sink;
}

abbrev pub decreases-loop-rest : goal.decreases-loop-rest
decreases-loop-rest g l = length l.rest
