use Rattle.std.proofs.Common.{◌↔◌, ◌⊎◌, sym, subst}
use Rattle.std.proofs.lemmas.Result.{IfOk-weaker}
use Rattle.cue_row.specs.Row.{RowRefusesQuestion}
use Rattle.cue_row.specs.declared.parts.RowParts.{RowParts as Row}
use Rattle.cue_eval.specs.Inner.Gathered.{LabelsRefuse}
use Rattle.cue_eval.specs.Places.{StructRefuses}
use Rattle.cue_eval.proofs.PlaceRows.{struct_refuses}
use Rattle.cue_eval.proofs.rows.struct_row.Goals as goal

pub returns : goal.returns
returns c =
    IfOk-weaker c.of_struct.result _ _
    (λ row is question. subst (λ (r : Row). RowRefusesQuestion r question ↔ (StructRefuses question ⊎ LabelsRefuse c.args.labels question)) (sym is) (struct_refuses c.args.labels question))
    c.of_struct.ensures
