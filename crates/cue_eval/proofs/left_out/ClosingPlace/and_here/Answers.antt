use Rattle.cue_eval.proofs.LabelTables.{here_added}
use Rattle.cue_eval.proofs.left_out.ClosingPlace.and_here.Goals as goal

pub returns-in_ok-meet_row-in-Some-clause-added : goal.returns-in_ok-meet_row-in-Some-clause-added
returns-in_ok-meet_row-in-Some-clause-added c =
    here_added c.args.self.now c.args.sets c.in-Some.row c.meet_row.new.self (rw c.in-Some.is at c.in_ok-row.ensures) c.in_ok-meet_row-in-Some.ensures.ok
