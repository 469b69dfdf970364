use Rattle.cue_codec.proofs.Walking.{less_left}
use Rattle.cue_codec.proofs.encoding.encode.Goals as goal

pub loop-walk-smaller : goal.loop-walk-smaller
loop-walk-smaller c = less_left c.in_ok-write_next.field-0 _ _ _ _ c.in_ok-write_next.ensures.same c.in_ok-write_next.ensures.more c.if-branch.true
