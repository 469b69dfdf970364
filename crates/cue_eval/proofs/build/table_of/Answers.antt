use Rattle.cue_row.specs.Row.{RowRefusesQuestion}
use Rattle.cue_eval.proofs.Gathering.{alone}
use Rattle.cue_eval.proofs.build.table_of.Goals as goal

pub returns-clause-answers : goal.returns-clause-answers
returns-clause-answers c =
    alone c.new-table.result c.add_row.new.table c.args.row (RowRefusesQuestion c.args.row) c.new-table.ensures c.in_ok-add_row.ensures.answers (λ question. (λ h. h, λ h. h))
