use Rattle.std.proofs.Common.{◌≡◌, ◌++◌, ℕ, List, length}
use Rattle.cue_layers.specs.Pieces.{IsTakenIn}
use Rattle.cue_layers.specs.Inner.Stages.{intake_of, IsSound}
use Rattle.cue_layers.proofs.stage.Stage.more.Given as goal

-- the front of the piece was taken in
abbrev pub invariant-pieces : goal.invariant-pieces
invariant-pieces l = record {
  sound : IsSound l.stage;
  taken : (done : List ℕ) × (l.piece ≡ done ++ l.rest) × IsTakenIn (intake_of l.fn.self) done (intake_of l.stage);
}

abbrev pub decreases-pieces : goal.decreases-pieces
decreases-pieces l = length l.rest
