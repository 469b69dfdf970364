use Rattle.std.proofs.Common.{ap}
use Rattle.cue_report.specs.Inner.Trail.{shown_steps}
use Rattle.cue_report.proofs.FoundGaps.{from_nothing}
use Rattle.cue_report.proofs.gap.incomplete.Goals as goal

pub returns : goal.returns
returns c =
    from_nothing c.args.table.now c.root.result c.new-found.result.items c.visit.new.out.items _ _ (shown_steps c.new-search.result.steps.items)
    c.root.ensures.branch c.new-found.ensures.items (ap shown_steps c.new-search.ensures.steps) c.in_ok-visit.ensures.gaps
