use Rattle.cue_rounds.proofs.Working.{each_unsent, each_sends_join}
use Rattle.cue_rounds.proofs.peers.send_all.Goals as goal

pub loop-place-init : goal.loop-place-init
loop-place-init g c = each_unsent g.T.ClientStream.written c.args.places.now.items

pub loop-place-preserved : goal.loop-place-preserved
loop-place-preserved g c = each_sends_join g.T.ClientStream.written _ c.loop-place.places.items _ c.loop-place.invariant c.send_at.ensures
