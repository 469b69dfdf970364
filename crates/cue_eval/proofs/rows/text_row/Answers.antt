use Rattle.std.proofs.Common.{◌↔◌, sym, subst}
use Rattle.cue_row.specs.Row.{RowRefusesQuestion}
use Rattle.cue_row.specs.declared.parts.RowParts.{RowParts as Row}
use Rattle.cue_eval.specs.Pairs.{plain_pair}
use Rattle.cue_eval.specs.Places.{ScalarRefuses}
use Rattle.cue_eval.specs.Sets.{text_alone}
use Rattle.cue_eval.proofs.PlaceRows.{text_refuses}
use Rattle.cue_eval.proofs.rows.text_row.Goals as goal

pub returns : goal.returns
returns c question = subst (λ (row : Row). RowRefusesQuestion row question ↔ ScalarRefuses (plain_pair (text_alone c.args.text)) question) (sym c.of_text.ensures) (text_refuses c.args.text question)
