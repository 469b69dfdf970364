use Rattle.std.proofs.Common.{◌≡◌, ◌≤◌, ◌++◌, length}
use Rattle.cue_codec.specs.Inner.Pieces.{with_bytes}
use Rattle.cue_codec.proofs.row_pieces.RowPieces.feed.Given as goal

-- the bytes that were taken in and those that are left are all
abbrev pub invariant-loop-rest : goal.invariant-loop-rest
invariant-loop-rest l = record {
  version : l.rows.version ≡ l.fn.self.version;
  count : l.rows.count ≡ l.fn.self.count;
  bytes : (with_bytes l.rows l.unfinished).bytes ++ l.rest ≡ l.fn.self.bytes ++ l.fn.piece;
  fewer : length l.rest ≤ length l.fn.piece;
}

abbrev pub decreases-loop-rest : goal.decreases-loop-rest
decreases-loop-rest l = length l.rest
