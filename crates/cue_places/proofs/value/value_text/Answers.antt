use Rattle.std.proofs.Common.{◌≡◌, None, Bor, sym, ap, subst, ◌∙◌}
use Rattle.std.specs.Option.{option_map}
use Rattle.cue_row.specs.declared.parts.RowParts.{RowParts as Row}
use Rattle.cue_table.specs.Tree.{row_of}
use Rattle.cue_places.proofs.Values.{bare_line}
use Rattle.cue_places.proofs.value.value_text.Goals as goal

pub returns-in_ok-from_str-in-None : goal.returns-in_ok-from_str-in-None
returns-in_ok-from_str-in-None c = λ deep.
    let none : row_of c.root.result ≡ None = sym c.row.ensures.row ∙ ap (option_map (λ (row : Bor Row). row.now)) c.in-None.is in
    c.in_ok-from_str-in-None.ensures.ok ∙ sym (bare_line c.args.table.now (subst (λ t. row_of t ≡ None) c.root.ensures.branch none))
