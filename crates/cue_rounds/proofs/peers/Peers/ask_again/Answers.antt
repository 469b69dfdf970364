use Rattle.cue_rounds.proofs.Working.{at_work_itself, at_work_join, at_work_silent}
use Rattle.cue_rounds.proofs.peers.Peers.ask_again.Goals as goal

pub loop-place-init : goal.loop-place-init
loop-place-init g c = at_work_itself g.T.ClientStream.written g.S.Settle.answers _ c.args.service.now.inner c.args.self.now.places.items

pub loop-place-preserved : goal.loop-place-preserved
loop-place-preserved g c =
    let join = at_work_join g.T.ClientStream.written g.S.Settle.answers _ in
    join _ c.loop-place.service.inner _ _ c.loop-place.self.places.items _ c.loop-place.invariant
    (join _ c.ask_again_at-asked.new.service.inner _ _ c.ask_again_at-asked.new.places.items _ c.ask_again_at-asked.ensures
    (at_work_silent g.T.ClientStream.written g.S.Settle.answers _ _ _ _ c.list_where.ensures))
