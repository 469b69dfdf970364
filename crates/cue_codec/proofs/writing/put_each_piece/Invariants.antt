use Rattle.std.proofs.Common.{◌≡◌, ◌++◌, take}
use Rattle.std.specs.List.{flat_map}
use Rattle.cue_codec.specs.Parts.{piece_bytes}
use Rattle.cue_codec.proofs.writing.put_each_piece.Given as goal

abbrev pub invariant-loop-piece : goal.invariant-loop-piece
invariant-loop-piece l = l.out.items ≡ l.fn.out.items ++ flat_map piece_bytes (take l.piece-index l.pieces)
