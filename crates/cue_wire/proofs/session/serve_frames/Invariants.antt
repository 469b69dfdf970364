use Rattle.std.proofs.Common.{length}
use Rattle.cue_wire.specs.Sessions.{Served}
use Rattle.cue_wire.proofs.session.serve_frames.Given as goal

-- the frames so far were served up to what is unread
abbrev pub invariant-loop-body : goal.invariant-loop-body
invariant-loop-body l = record {
  served : Served l.fn.unread.items l.unread.items l.fn.site l.site l.fn.out.items l.out.items;
}

abbrev pub decreases-loop-body : goal.decreases-loop-body
decreases-loop-body l = length l.unread.items
