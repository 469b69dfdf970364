use Rattle.std.proofs.Common.{List, [], ◌∷◌, ◌++◌, subst}
use Rattle.cue_lattice.specs.World.{Piece, state}
use Rattle.cue_replica.specs.Accepted.{IsOfPieces}
use Rattle.cue_replica.specs.Language.{Table}
use Rattle.cue_replica.proofs.Accepted.{of_no_piece}
use Rattle.cue_embed.proofs.site.site_of.Goals as goal

pub returns : goal.returns
returns c =
    let Accepts : Table → Type 0 = λ old. (pieces : List Piece) → IsOfPieces old pieces → IsOfPieces c.take.new.site (pieces ++ state c.args.bytes.now ∷ []) in
    (subst Accepts c.new-site.ensures c.in_ok-take.ensures.accepts) [] of_no_piece
