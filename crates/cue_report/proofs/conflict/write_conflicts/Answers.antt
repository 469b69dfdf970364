use Rattle.std.proofs.Common.{ap, subst, ◌∙◌, false, ℕ, List, Option}
use Rattle.std.specs.List.{flat_map}
use Rattle.cue_report.specs.Lines.{conflict_line, WritesConflictsPrefix}
use Rattle.cue_report.specs.Inner.Search.{conflicts_in}
use Rattle.cue_report.specs.Telling.{Tally}
use Rattle.cue_report.specs.Inner.Telling.{WritesPieces, WritesPiecesPrefix}
use Rattle.cue_report.specs.Inner.Trail.{shown_steps}
use Rattle.cue_report.specs.declared.conflict.Conflict.{Conflict}
use Rattle.cue_report.proofs.Descent.{Told}
use Rattle.cue_report.proofs.Found.{root_told, conflicts_found, only_conflicts}
use Rattle.cue_report.proofs.Telling.{appended, begun}
use Rattle.cue_report.proofs.TextOf.{any_conflict}
use Rattle.cue_report.proofs.Writing.{on_any}
use Rattle.cue_report.proofs.conflict.write_conflicts.Goals as goal

abbrev at : ℕ → Option (List ℕ) → Tally ℕ
at count known = record { count = count; known = known }

pub returns-clause-lines : goal.returns-clause-lines
returns-clause-lines g c =
    let table = c.args.table.now in
    let taken = g.S.TextSink.taken in
    let found : List Conflict = conflicts_in false table in
    let start = at c.new-search.result.sink.told (taken c.args.out.now) in
    let after = at c.visit.new.self.sink.told (taken c.visit.new.out) in
    let same = root_told conflict_line table c.root.result (shown_steps c.new-search.result.steps.items) c.root.ensures.branch (ap shown_steps c.new-search.ensures.steps) in
    let told = subst (λ text. WritesPieces start after text) same c.in_ok-visit.ensures.found in (
      found,
      conflicts_found table c.root.ensures.form,
      any_conflict found start.count after.count _ (ap (λ s. s.told) c.new-search.ensures.sink ∙ c.new.ensures) told.count c.has_written.ensures,
      appended (taken c.args.out.now) (taken c.visit.new.out) (flat_map conflict_line found) told.known,
    )

pub returns-in_err-visit-clause-begun : goal.returns-in_err-visit-clause-begun
returns-in_err-visit-clause-begun g c =
    let table = c.args.table.now in
    let taken = g.S.TextSink.taken in
    let start = at c.new-search.result.sink.told (taken c.args.out.now) in
    let after = at c.visit.new.self.sink.told (taken c.visit.new.out) in
    let all : WritesConflictsPrefix (Told table) (taken c.args.out.now) (taken c.visit.new.out) = λ found are.
    begun start after (flat_map conflict_line found)
    (subst (λ text. WritesPiecesPrefix start after text)
    (root_told conflict_line table c.root.result (shown_steps c.new-search.result.steps.items) c.root.ensures.branch (ap shown_steps c.new-search.ensures.steps)
    ∙ ap (flat_map conflict_line) (only_conflicts table c.root.ensures.form found are)) c.in_err-visit.ensures.begun) in
    on_any _ all
