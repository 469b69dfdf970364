use Rattle.cue_rounds.proofs.Working.{at_work_itself, at_work_join}
use Rattle.cue_rounds.proofs.peers.receive_all.Goals as goal

pub loop-place-init : goal.loop-place-init
loop-place-init g c = at_work_itself g.T.ClientStream.written g.S.Settle.answers _ c.args.service.now.inner c.args.places.now.items

pub loop-place-preserved : goal.loop-place-preserved
loop-place-preserved g c =
    at_work_join g.T.ClientStream.written g.S.Settle.answers _ _ c.loop-place.service.inner _ _ c.loop-place.places.items _
    c.loop-place.invariant c.receive_at-count.ensures
