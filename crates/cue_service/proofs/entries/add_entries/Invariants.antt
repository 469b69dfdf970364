use Rattle.std.proofs.Common.{◌++◌, List, map, take}
use Rattle.cue_lattice.specs.World.{Piece}
use Rattle.cue_replica.specs.Accepted.{IsOfPieces}
use Rattle.cue_service.specs.Entries.{pieces_of}
use Rattle.cue_service.proofs.entries.add_entries.Given as goal

abbrev pub invariant-loop-entry : goal.invariant-loop-entry
invariant-loop-entry l = (pieces : List Piece) → IsOfPieces l.fn.board pieces → IsOfPieces l.board (pieces ++ pieces_of (map (λ v. v.items) (take l.entry-index l.entries)))
