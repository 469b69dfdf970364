use Rattle.std.proofs.Common.{◌≡◌, ◌↔◌, ap, sym, subst, ◌∙◌}
use Rattle.std.proofs.lemmas.Result.{IfOk-weaker}
use Rattle.cue_row.specs.Made.{list_row}
use Rattle.cue_row.specs.Row.{RowRefusesQuestion}
use Rattle.cue_row.specs.declared.level.Level.TheVariants.{Optional}
use Rattle.cue_row.specs.declared.parts.RowParts.{RowParts as Row}
use Rattle.cue_eval.specs.Places.{ListRefuses}
use Rattle.cue_eval.proofs.PlaceRows.{list_refuses, most_of}
use Rattle.cue_eval.proofs.rows.list_row.Goals as goal
use Rattle.cue_eval.proofs.rows.list_row.Goals.{then-goes_on, else-goes_on}

pub returns : goal.returns
returns c =
    let count = c.args.count in
    let most : c.if-goes_on.most ≡ most_of c.args.goes_on count = elim c.if-goes_on.branch [
      | then-goes_on w ↦ w.most-is ∙ ap (λ b. most_of b count) (sym w.if-goes_on.true)
      | else-goes_on w ↦ w.most-is ∙ ap (λ b. most_of b count) (sym w.if-goes_on.false)
    ] in
    IfOk-weaker c.of_list.result _ _
    (λ row is question. subst (λ (r : Row). RowRefusesQuestion r question ↔ ListRefuses count c.args.goes_on question) (sym (is ∙ ap (list_row Optional count) most)) (list_refuses count c.args.goes_on question))
    c.of_list.ensures
