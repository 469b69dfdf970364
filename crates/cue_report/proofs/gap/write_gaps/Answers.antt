use Rattle.std.proofs.Common.{ap, ◌∙◌, ℕ}
use Rattle.std.specs.List.{flat_map}
use Rattle.cue_report.specs.Lines.{gap_line, WritesGapsPrefix}
use Rattle.cue_report.specs.Telling.{Tally}
use Rattle.cue_report.specs.Inner.Trail.{shown_steps}
use Rattle.cue_report.proofs.Descent.{Told}
use Rattle.cue_report.proofs.FoundGaps.{told_from_root}
use Rattle.cue_report.proofs.GapFronts.{front_of_root}
use Rattle.cue_report.proofs.Telling.{appended, begun}
use Rattle.cue_report.proofs.TextOf.{any_gap}
use Rattle.cue_report.proofs.Writing.{on_any}
use Rattle.cue_report.proofs.gap.write_gaps.Goals as goal

pub returns-clause-lines : goal.returns-clause-lines
returns-clause-lines g c =
    let taken = g.S.TextSink.taken in
    let told = told_from_root gap_line c.args.table.now c.root.result _ _ (shown_steps c.new-search.result.steps.items) c.root.ensures.branch (ap shown_steps c.new-search.ensures.steps) c.in_ok-visit.ensures.gaps in (
      told.0,
      told.1,
      any_gap told.0 _ _ _ (ap (λ s. s.told) c.new-search.ensures.sink ∙ c.new.ensures) told.2.count c.has_written.ensures,
      appended (taken c.args.out.now) (taken c.visit.new.out) (flat_map gap_line told.0) told.2.known,
    )

pub returns-in_err-visit-clause-begun : goal.returns-in_err-visit-clause-begun
returns-in_err-visit-clause-begun g c =
    let taken = g.S.TextSink.taken in
    let start : Tally ℕ = record { count = c.new-search.result.sink.told; known = taken c.args.out.now } in
    let after : Tally ℕ = record { count = c.visit.new.self.sink.told; known = taken c.visit.new.out } in
    let all : WritesGapsPrefix (Told c.args.table.now) (taken c.args.out.now) (taken c.visit.new.out) = λ found are.
    begun start after (flat_map gap_line found)
    (front_of_root gap_line c.args.table.now c.root.result start after (shown_steps c.new-search.result.steps.items) c.root.ensures.branch (ap shown_steps c.new-search.ensures.steps) c.in_err-visit.ensures.begun found are) in
    on_any _ all
