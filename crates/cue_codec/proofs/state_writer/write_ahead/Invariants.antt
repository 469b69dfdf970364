use Rattle.std.proofs.Common.{◌≡◌, ◌++◌, length}
use Rattle.cue_codec.specs.Inner.Walks.{walk_bytes, IsWalk}
use Rattle.cue_codec.proofs.state_writer.write_ahead.Given as goal

-- what was written and what is left stay the same
abbrev pub invariant-loop-walk : goal.invariant-loop-walk
invariant-loop-walk l = record {
  walk : IsWalk l.walk;
  same : l.ready.items ++ walk_bytes l.walk ≡ l.fn.ready.items ++ walk_bytes l.fn.walk;
}

abbrev pub decreases-loop-walk : goal.decreases-loop-walk
decreases-loop-walk l = length (walk_bytes l.walk)
