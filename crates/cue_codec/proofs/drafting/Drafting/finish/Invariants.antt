use Rattle.std.proofs.Common.{◌≡◌, ◌++◌}
use Rattle.cue_codec.proofs.drafting.Drafting.finish.Given as goal

-- the rows that were read and the bytes that are left are those of all
abbrev pub invariant-loop-rows : goal.invariant-loop-rows
invariant-loop-rows l = record {
  version : l.rows.version ≡ l.fn.self.version;
  count : l.rows.count ≡ l.fn.self.count;
  bytes : l.rows.bytes ++ l.reader ≡ l.fn.self.bytes ++ l.fn.bytes;
}

abbrev pub decreases-loop-rows : goal.decreases-loop-rows
decreases-loop-rows l = l.rows.left
