use Rattle.std.proofs.Common.{length}
use Rattle.cue_wire.specs.Inner.Pieces.{Gains}
use Rattle.cue_wire.proofs.client.read_frames.Given as goal

-- the stream is the frames so far and the rest
abbrev pub invariant-loop-body : goal.invariant-loop-body
invariant-loop-body l = record {
  gains : Gains l.stream l.rest l.fn.replies.items l.replies.items;
}

abbrev pub decreases-loop-body : goal.decreases-loop-body
decreases-loop-body l = length l.rest
