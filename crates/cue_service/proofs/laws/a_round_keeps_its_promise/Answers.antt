use Rattle.std.proofs.Common.{refl}
use Rattle.cue_service.proofs.Rounds.{roomed, roomed_consistent, held, listed_still, gathered, stands, survives, once}
use Rattle.cue_service.proofs.laws.a_round_keeps_its_promise.Goals as goal

pub returns-clause-held : goal.returns-clause-held
returns-clause-held g c = held g.D.Disk.seen g.D.Disk.may_leave

pub returns-clause-stands : goal.returns-clause-stands
returns-clause-stands g c = stands g.D.Disk.seen g.D.Disk.may_leave

pub returns-clause-crash : goal.returns-clause-crash
returns-clause-crash g c = survives g.D.Disk.seen g.D.Disk.may_leave

pub returns-clause-once : goal.returns-clause-once
returns-clause-once g c = once g.D.Disk.seen g.D.Disk.may_leave

pub returns-clause-listed : goal.returns-clause-listed
returns-clause-listed g c = listed_still g.D.Disk.seen g.D.Disk.may_leave

pub returns-clause-gathered : goal.returns-clause-gathered
returns-clause-gathered g c = λ old new pulled on_disk pieces accepted before listed gathers.
    gathered g.D.Disk.seen g.D.Disk.may_leave pulled (roomed g.D.Disk.seen g.D.Disk.may_leave old new.files) new on_disk pieces accepted gathers.gathers refl
    (roomed_consistent g.D.Disk.seen g.D.Disk.may_leave old new.files on_disk pieces gathers.files before) listed
