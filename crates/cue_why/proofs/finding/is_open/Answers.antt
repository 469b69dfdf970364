use Rattle.std.proofs.Common.{sym}
use Rattle.cue_report.proofs.Open.{open_chosen}
use Rattle.cue_why.proofs.finding.is_open.Goals as goal

pub returns-in_ok-chosen-in-false-false : goal.returns-in_ok-chosen-in-false-false
returns-in_ok-chosen-in-false-false c =
    let found = c.in_ok-chosen-in-false-false in
    open_chosen c.args.row.now found.field-0 c.is_none.result c.requires.form c.requires.value (sym c.in-false-false.ensures) (sym c.in-false-false.ensures') found.ensures.some found.ensures.none c.is_none.ensures
