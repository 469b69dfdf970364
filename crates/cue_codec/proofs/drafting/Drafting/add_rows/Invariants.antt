use Rattle.std.proofs.Common.{◌≡◌, ◌≤◌, ◌++◌, length}
use Rattle.cue_codec.proofs.drafting.Drafting.add_rows.Given as goal

-- the rows that were read and the bytes that are left are those of all
abbrev pub invariant-loop-reader : goal.invariant-loop-reader
invariant-loop-reader l = record {
  version : l.self.version ≡ l.fn.self.version;
  count : l.self.count ≡ l.fn.self.count;
  bytes : l.self.bytes ++ l.reader ≡ l.fn.self.bytes ++ l.fn.bytes;
  fewer : length l.reader ≤ length l.fn.bytes;
}

abbrev pub decreases-loop-reader : goal.decreases-loop-reader
decreases-loop-reader l = l.self.left
