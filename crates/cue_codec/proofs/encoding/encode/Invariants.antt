use Rattle.std.proofs.Common.{◌≡◌, ◌++◌, length}
use Rattle.cue_codec.specs.Inner.Walks.{walk_bytes, IsWalk}
use Rattle.cue_codec.specs.State.{table_bytes}
use Rattle.cue_codec.proofs.encoding.encode.Given as goal

-- what was written and what is left are all
abbrev pub invariant-loop-walk : goal.invariant-loop-walk
invariant-loop-walk l = record {
  walk : IsWalk l.walk;
  bytes : l.out.items ++ walk_bytes l.walk ≡ table_bytes l.table;
}

abbrev pub decreases-loop-walk : goal.decreases-loop-walk
decreases-loop-walk l = length (walk_bytes l.walk)
