use Rattle.std.proofs.Common.{ap}
use Rattle.cue_report.specs.Inner.Trail.{shown_steps}
use Rattle.cue_report.proofs.Exact.{exact_conflicts}
use Rattle.cue_report.proofs.Found.{from_nothing}
use Rattle.cue_report.proofs.conflict.conflicts.Goals as goal

pub returns-clause-conflicts : goal.returns-clause-conflicts
returns-clause-conflicts c =
    from_nothing c.args.table.now c.root.result c.new-found.result.items c.visit.new.out.items (shown_steps c.new-search.result.steps.items)
    c.root.ensures.form c.root.ensures.branch c.new-found.ensures.items (ap shown_steps c.new-search.ensures.steps) c.in_ok-visit.ensures.found.known

pub returns-clause-exact : goal.returns-clause-exact
returns-clause-exact c = exact_conflicts c.args.table.now c.visit.new.out.items (returns-clause-conflicts c)
