use Rattle.std.proofs.Common.{◌≡◌, ◌≤◌, length, None}
use Rattle.std.specs.Vec.{vec_len, vec_capacity}
use Rattle.cue_codec.specs.Inner.Walks.{walk_bytes, IsWalk}
use Rattle.cue_codec.proofs.row_walk.RowWalk.take_next.Given as goal

-- what is left stays the same
abbrev pub invariant-loop-place : goal.invariant-loop-place
invariant-loop-place l = record {
  walk : IsWalk l.self;
  bytes : walk_bytes l.self ≡ walk_bytes l.fn.self;
  none : l.self.next ≡ None;
  no_more : vec_len l.self.stack ≤ vec_len l.fn.self.stack;
  capacity : vec_capacity l.self.stack ≡ vec_capacity l.fn.self.stack;
}

abbrev pub decreases-loop-place : goal.decreases-loop-place
decreases-loop-place l = length l.self.stack.items
