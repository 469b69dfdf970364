use Rattle.std.proofs.Common.{◌≡◌, ◌++◌, length}
use Rattle.cue_wire.specs.Inner.Pieces.{AppendsBytes}
use Rattle.cue_wire.proofs.state_reply.add_rest.Given as goal

-- what was added, and what the writer has left, are all that it had
abbrev pub invariant-loop-count : goal.invariant-loop-count
invariant-loop-count l = record {
  whole : l.out.items ++ l.writer ≡ l.fn.out.items ++ l.fn.writer;
  behind : AppendsBytes l.fn.out.items l.out.items;
  room : length l.piece ≡ 4096;
}

abbrev pub decreases-loop-count : goal.decreases-loop-count
decreases-loop-count l = length l.writer
