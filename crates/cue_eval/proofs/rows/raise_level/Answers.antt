use Rattle.std.proofs.Common.{◌↔◌, ◌⊎◌, max, ap, sym, subst, ◌∙◌}
use Rattle.cue_row.specs.Levels.{level_of}
use Rattle.cue_row.specs.Row.{RowRefusesQuestion}
use Rattle.cue_row.specs.declared.level.Level.{Level}
use Rattle.cue_row.specs.declared.parts.RowParts.{RowParts as Row}
use Rattle.cue_eval.specs.Places.{MarkRefuses}
use Rattle.cue_eval.proofs.PlaceRows.{raised_refuses}
use Rattle.cue_eval.proofs.rows.raise_level.Goals as goal

pub returns : goal.returns
returns c question =
    let row = c.args.row in
    let mark = c.args.mark in
    let own = ap (λ (l : Level). max (level_of l) (level_of c.level_of.result)) c.level.ensures in
    let level = c.greater-level.ensures ∙ own ∙ ap (max (level_of row.level)) c.level_of.ensures in
    subst (λ (r : Row). RowRefusesQuestion r question ↔ (RowRefusesQuestion row question ⊎ MarkRefuses mark question)) (sym c.at_level.ensures) (raised_refuses row c.greater-level.result mark level question)
