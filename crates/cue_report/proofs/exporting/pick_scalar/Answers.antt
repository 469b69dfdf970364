use Rattle.cue_report.proofs.Documents.{one_chosen, one_first, none_first}
use Rattle.cue_report.proofs.exporting.pick_scalar.Goals as goal

pub returns-in-Some-clause-some : goal.returns-in-Some-clause-some
returns-in-Some-clause-some c = one_chosen c.args.row.now c.in_ok-scalar.field-0 c.in-Some.scalar c.in-Some.is c.in_ok-scalar.ensures.some

pub returns-in_ok-first-in-None-clause-some : goal.returns-in_ok-first-in-None-clause-some
returns-in_ok-first-in-None-clause-some c =
    one_first c.args.row.now c.in_ok-scalar.field-0 c.in_ok-first-in-None.first c.in-None.is c.in_ok-scalar.ensures.none c.in_ok-first-in-None.ensures.some

pub returns-in_ok-first-in-None-clause-none : goal.returns-in_ok-first-in-None-clause-none
returns-in_ok-first-in-None-clause-none c = none_first c.args.row.now c.in_ok-first-in-None.first c.in_ok-first-in-None.ensures.none
