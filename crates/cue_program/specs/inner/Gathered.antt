-- Pieces that are taken in batches.
use Rattle.std.specs.Prelude.{◌≡◌, List, ◌++◌}
use Rattle.cue_lattice.specs.World.{Piece}
use Rattle.cue_replica.specs.Accepted.{IsOfPieces}
use Rattle.cue_replica.specs.Language.{Table}
use Rattle.cue_program.specs.declared.batch.SiteBatch.{SiteBatch}

-- one site has taken the first of these pieces, and the other one those behind them
abbrev pub HaveTaken : Table → Table → List Piece → Type 0
HaveTaken site batch pieces =
    (first last : List Piece) × (pieces ≡ first ++ last)
    × IsOfPieces site first × IsOfPieces batch last

-- so have the site and the batch
abbrev pub IsGathered : SiteBatch → List Piece → Type 0
IsGathered gathered pieces = HaveTaken gathered.site gathered.batch pieces
