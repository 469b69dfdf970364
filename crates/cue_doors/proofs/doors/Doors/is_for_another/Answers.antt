use Rattle.cue_doors.proofs.Requests.{for_another}
use Rattle.cue_doors.proofs.doors.Doors.is_for_another.Goals as goal

pub returns-in-Some : goal.returns-in-Some
returns-in-Some c = for_another c.args.self.now c.args.request.now c.in-Some.host.now c.is_own.result c.in-Some.ensures c.is_own.ensures
