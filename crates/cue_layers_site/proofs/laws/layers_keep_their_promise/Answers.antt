use Rattle.cue_layers_site.proofs.Rounds.{held, stand, survive, pulled, once}
use Rattle.cue_layers_site.proofs.laws.layers_keep_their_promise.Goals as goal

pub returns-clause-held : goal.returns-clause-held
returns-clause-held g c = held g.D.Disk.seen g.D.Disk.may_leave g.S.Settle.answers g.S.ServesCommons.commons g.S.ServesCommons.lets_write

pub returns-clause-stand : goal.returns-clause-stand
returns-clause-stand g c = stand g.D.Disk.seen g.D.Disk.may_leave g.S.Settle.answers g.S.ServesCommons.commons g.S.ServesCommons.lets_write

pub returns-clause-crash : goal.returns-clause-crash
returns-clause-crash g c = survive g.D.Disk.seen g.D.Disk.may_leave g.S.Settle.answers g.S.ServesCommons.commons g.S.ServesCommons.lets_write

pub returns-clause-pulled : goal.returns-clause-pulled
returns-clause-pulled g c = pulled g.D.Disk.seen g.D.Disk.may_leave

pub returns-clause-once : goal.returns-clause-once
returns-clause-once g c = once g.D.Disk.seen g.D.Disk.may_leave g.S.Settle.answers g.S.ServesCommons.commons g.S.ServesCommons.lets_write
