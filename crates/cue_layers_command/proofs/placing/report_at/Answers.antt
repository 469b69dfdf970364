use Rattle.std.proofs.Common.{List, ℕ, Some, Vec, Global, string_bytes, ap, subst, sym}
use Rattle.cue_replica.specs.Reports.{WritesConflictsOf}
use Rattle.cue_replica.specs.declared.question.SiteQuestion.TheVariants as questions
use Rattle.cue_layers_command.specs.Places.{IsShownAt}
use Rattle.cue_layers_command.proofs.Places.{report_shown}
use Rattle.cue_layers_command.proofs.placing.report_at.Goals as goal

pub returns : goal.returns
returns c =
    let mid = string_bytes c.write_conflicts.new.out in
    let told = subst (λ (start : List ℕ). WritesConflictsOf c.args.table.now c.in_ok-conflicting.conflicting (Some start) (Some mid))
    c.new-text.ensures.bytes c.in_ok-conflicting.ensures.lines in
    subst (λ (bytes : List ℕ). IsShownAt questions.Report c.args.table.now bytes c.code_of_lines.result) (ap (λ (v : Vec ℕ Global). v.items) (sym c.into_bytes.ensures.value))
    (report_shown c.args.table.now mid (string_bytes c.write_gaps.new.out) c.in_ok-conflicting.conflicting c.in_ok-lacking.lacking
    c.code_of_lines.result told c.in_ok-lacking.ensures.lines c.code_of_lines.ensures)
