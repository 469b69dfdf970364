use Rattle.std.proofs.Common.{◌≡◌, ◌++◌, ◌<◌, ℕ, List, length}
use Rattle.cue_program.specs.Calls.{WritesBytes}
use Rattle.cue_program.proofs.state_file.write_rest.Given as goal

-- what was written, and what the writer has left, are all that it had
abbrev pub invariant-pieces : goal.invariant-pieces
invariant-pieces g l = record {
  room : 0 < length l.piece;
  written : (done : List ℕ) × (l.fn.state ≡ done ++ l.state) × WritesBytes g.S.FileSystem.makes done l.fn.file l.file l.fn.shelf l.shelf;
}

abbrev pub decreases-pieces : goal.decreases-pieces
decreases-pieces g l = length l.state
