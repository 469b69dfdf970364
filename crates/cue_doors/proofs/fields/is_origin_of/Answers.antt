use Rattle.cue_doors.proofs.Requests.{by_rest, no_scheme}
use Rattle.cue_doors.proofs.fields.is_origin_of.Goals as goal

pub returns-in-None : goal.returns-in-None
returns-in-None c = no_scheme c.args.host.now c.args.origin.now c.in-None.ensures.none

pub returns-in-Some : goal.returns-in-Some
returns-in-Some c = by_rest c.args.host.now c.args.origin.now c.in-Some.rest.now c.eq_ignore_ascii_case.result c.in-Some.ensures.some c.eq_ignore_ascii_case.ensures.test
