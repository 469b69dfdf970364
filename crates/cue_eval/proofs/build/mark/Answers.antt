use Rattle.std.proofs.Common.{◌↔◌, ◌⊎◌, ◌∙◌, sym, subst}
use Rattle.std.proofs.lemmas.Result.{on_ok_weaker}
use Rattle.cue_lattice.specs.Question.{Question}
use Rattle.cue_row.specs.Row.{RowRefusesQuestion}
use Rattle.cue_row.specs.declared.parts.RowParts.{RowParts as Row}
use Rattle.cue_table.specs.Tree.{row_of}
use Rattle.cue_eval.specs.Places.{MarkRefuses}
use Rattle.cue_eval.proofs.Gathering.{IsMarked, marked_none, marked_some, marked_answers}
use Rattle.cue_eval.proofs.build.mark.Goals as goal
use Rattle.cue_eval.proofs.build.mark.Goals.{in-None, in-Some}

pub returns-clause-answers : goal.returns-clause-answers
returns-clause-answers c =
    let before = row_of c.args.table.now in
    let row = c.match-take_row.row in
    let is : IsMarked c.args.mark before row = elim c.match-take_row.branch [
      | in-None w ↦ marked_none c.args.mark before row (sym c.take_row.ensures.row ∙ w.in-None.is)
          (subst (λ (r : Row). (question : Question) → RowRefusesQuestion r question ↔ MarkRefuses c.args.mark question) (sym w.row-is) w.mark_row-row.ensures)
      | in-Some w ↦ marked_some c.args.mark before w.in-Some.row row (sym c.take_row.ensures.row ∙ w.in-Some.is)
          (subst (λ (r : Row). (question : Question) → RowRefusesQuestion r question ↔ (RowRefusesQuestion w.in-Some.row question ⊎ MarkRefuses c.args.mark question)) (sym w.row-is) w.raise_level-row.ensures)
    ] in
    on_ok_weaker c.add_row.result (λ rooted. marked_answers c.args.table.now c.take_row.new.self c.add_row.new.table c.args.mark row c.take_row.ensures.others rooted is) c.add_row.ensures.answers
