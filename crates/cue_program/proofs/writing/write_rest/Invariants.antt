use Rattle.std.proofs.Common.{◌≡◌, ◌++◌, ◌<◌, ℕ, List, length}
use Rattle.std.specs.Io.KnownBytes.{Appends}
use Rattle.cue_program.proofs.writing.write_rest.Given as goal

-- what was told, and what the writer has left, are all that it had
abbrev pub invariant-pieces : goal.invariant-pieces
invariant-pieces g l = record {
  room : 0 < length l.piece;
  told : (done : List ℕ) × (l.fn.state ≡ done ++ l.state) × Appends (g.W.Write.contents l.fn.out.inner) (g.W.Write.contents l.out.inner) done;
}

abbrev pub decreases-pieces : goal.decreases-pieces
decreases-pieces g l = length l.state
