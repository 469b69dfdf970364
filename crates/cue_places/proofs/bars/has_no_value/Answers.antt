use Rattle.std.proofs.Common.{◌≡◌, Some, None, Bor, sym, ap, ◌∙◌}
use Rattle.std.specs.Option.{option_map}
use Rattle.cue_row.specs.declared.parts.RowParts.{RowParts as Row}
use Rattle.cue_table.specs.Tree.{row_of}
use Rattle.cue_places.proofs.Rows.{none_value, some_value, row_kept}
use Rattle.cue_places.proofs.bars.has_no_value.Goals as goal

pub returns-in-None : goal.returns-in-None
returns-in-None c =
    let none : row_of c.args.branch.now ≡ None = sym c.row.ensures.row ∙ ap (option_map (λ (row : Bor Row). row.now)) c.in-None.is in
    none_value c.args.branch.now none

pub returns-in-Some : goal.returns-in-Some
returns-in-Some c =
    let some : row_of c.args.branch.now ≡ Some c.in-Some.row.now = sym c.row.ensures.row ∙ ap (option_map (λ (row : Bor Row). row.now)) c.in-Some.is in
    some_value c.args.branch.now c.in-Some.row.now c.lacks_value.result some (row_kept c.args.branch.now c.in-Some.row.now c.row.ensures.form some) c.lacks_value.ensures
