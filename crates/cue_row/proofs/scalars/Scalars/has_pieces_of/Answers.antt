use Rattle.cue_sets.proofs.PieceTests.{Decides-slices}
use Rattle.cue_row.proofs.scalars.Scalars.has_pieces_of.Goals as goal

pub returns : goal.returns
returns c =
    Decides-slices c.eq.result c.pieces.result.now c.pieces-2.result.now c.args.self.now.ints c.args.other.now.ints c.eq.ensures c.pieces.ensures.list c.pieces-2.ensures.list
