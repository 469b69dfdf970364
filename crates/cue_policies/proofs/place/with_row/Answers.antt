use Rattle.std.proofs.Common.{sym}
use Rattle.cue_policies.proofs.Branches.{added_answer}
use Rattle.cue_policies.proofs.Calls.{row_added}
use Rattle.cue_policies.proofs.place.with_row.Goals as goal

pub returns-in_ok-meet_row-in-Some-clause-refused : goal.returns-in_ok-meet_row-in-Some-clause-refused
returns-in_ok-meet_row-in-Some-clause-refused c =
    row_added c.args.part.now c.in-Some.row.now c.in_ok-row_of-in-Some.field-0 c.args.table c.meet_row.new.self (sym c.in-Some.ensures.row) c.in_ok-row_of-in-Some.ensures
    (added_answer c.args.table c.meet_row.new.self c.in_ok-row_of-in-Some.field-0 c.in_ok-meet_row-in-Some.ensures.ok)
