use Rattle.cue_rounds.proofs.Working.{each_silent, each_silent_join}
use Rattle.cue_rounds.proofs.peers.Peers.end_overdue.Goals as goal

pub loop-place-init : goal.loop-place-init
loop-place-init g c = each_silent g.T.ClientStream.written c.args.self.now.places.items

pub loop-place-preserved : goal.loop-place-preserved
loop-place-preserved g c =
    let join = each_silent_join g.T.ClientStream.written in
    join _ c.loop-place.self.places.items _ c.loop-place.invariant
    (join _ c.end_overdue_at-tired.new.places.items _ c.end_overdue_at-tired.ensures c.list_where.ensures)
