use Rattle.std.proofs.Common.{◌↔◌, ◌⊎◌, Option, sym, subst}
use Rattle.cue_lattice.specs.Path.{Path}
use Rattle.cue_table.specs.Inner.Given.{RefusesAtRoot}
use Rattle.cue_table.specs.Refuses.{TableRefuses}
use Rattle.cue_table.proofs.one_step.meet_row.Goals as goal

pub returns-in_ok-meet_row-in-Some-clause-refused : goal.returns-in_ok-meet_row-in-Some-clause-refused
returns-in_ok-meet_row-in-Some-clause-refused g c =
    let r = g.R.Narrow.refuses in
    let met = c.meet_row.new.self in
    let table = c.args.table in
    subst (λ (row : Option g.row.R.Denot). (path : Path) (question : g.row.R-Question.Denot) → TableRefuses r met path question ↔ (TableRefuses r table path question ⊎ RefusesAtRoot r row path question)) (sym c.in-Some.is)
    c.in_ok-meet_row-in-Some.ensures.ok
