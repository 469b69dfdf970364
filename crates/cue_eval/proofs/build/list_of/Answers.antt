use Rattle.std.proofs.Common.{◌↔◌, ◌∙◌, length, subst}
use Rattle.cue_lattice.specs.Question.{Question}
use Rattle.cue_row.specs.Row.{RowRefusesQuestion}
use Rattle.cue_eval.specs.Places.{ListRefuses}
use Rattle.cue_eval.proofs.Gathering.{literal_answers}
use Rattle.cue_eval.proofs.build.list_of.Goals as goal

pub returns-clause-answers : goal.returns-clause-answers
returns-clause-answers c = literal_answers c.args.elements.items c.in_ok-table.table c.add_row.new.table c.in_ok-list_row.field-0 (ListRefuses (length c.args.elements.items) c.args.goes_on)
    c.in_ok-table.ensures.refused c.in_ok-add_row.ensures.answers
    (subst (λ n. (question : Question) → RowRefusesQuestion c.in_ok-list_row.field-0 question ↔ ListRefuses n c.args.goes_on question) (c.len-count.ensures ∙ c.args.elements.ok.0) c.in_ok-list_row.ensures)
