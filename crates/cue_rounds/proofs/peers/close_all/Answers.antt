use Rattle.cue_rounds.specs.Standing.{IsClosed}
use Rattle.cue_rounds.proofs.Places.{are_itself, are_join, closed_itself, closed_join}
use Rattle.cue_rounds.proofs.peers.close_all.Goals as goal

pub loop-place-init : goal.loop-place-init
loop-place-init g c = are_itself IsClosed closed_itself c.args.places.now.items

pub loop-place-preserved : goal.loop-place-preserved
loop-place-preserved g c = are_join IsClosed closed_join _ c.loop-place.places.items _ c.loop-place.invariant c.close_at-closing.ensures
