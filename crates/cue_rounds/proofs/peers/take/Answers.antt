use Rattle.cue_rounds.proofs.Places.{are_unopened, are_opened_join}
use Rattle.cue_rounds.proofs.peers.take.Goals as goal

pub loop-init : goal.loop-init
loop-init g c = are_unopened g.R.Client.ClientStream.written c.args.peers.now.places.items

pub loop-preserved : goal.loop-preserved
loop-preserved g c =
    are_opened_join g.R.Client.ClientStream.written _ c.loop.peers.places.items _ c.loop.invariant c.add.ensures.opens
