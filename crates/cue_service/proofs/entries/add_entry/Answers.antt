use Rattle.std.proofs.Common.{List, [], ◌∷◌, ◌++◌, OnOk, subst}
use Rattle.cue_lattice.specs.World.{Piece}
use Rattle.cue_replica.specs.Accepted.{IsOfPieces}
use Rattle.cue_service.specs.Requests.{piece_of_bytes}
use Rattle.cue_service.proofs.Opening.{piece_added}
use Rattle.cue_service.proofs.entries.add_entry.Goals as goal

pub returns : goal.returns
returns c =
    subst (λ (p : Piece). OnOk c.submit_piece.result ((pieces : List Piece) → IsOfPieces c.args.board.now pieces → IsOfPieces c.submit_piece.new.site (pieces ++ p ∷ [])))
    c.parts_of-hand.ensures
    (piece_added c.submit_piece.result c.args.board.now c.submit_piece.new.site (piece_of_bytes c.parts_of-hand.result.0 c.parts_of-hand.result.1.now) c.submit_piece.ensures.acceptable c.submit_piece.ensures.adds c.submit_piece.ensures.valid)
