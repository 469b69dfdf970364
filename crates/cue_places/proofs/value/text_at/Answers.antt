use Rattle.std.proofs.Common.{◌≡◌, ◌++◌, sym, ap, subst, ◌∙◌}
use Rattle.cue_print.specs.Printed.{file_of, level_at, value_of}
use Rattle.cue_print.specs.Spelled.{file_text, line, mark_text, value_text}
use Rattle.cue_row.specs.Quoted.{quote_text}
use Rattle.cue_table.specs.Form.{IsTreeTaken}
use Rattle.cue_table.specs.Tree.{row_of}
use Rattle.cue_places.specs.Inner.Fields.{name, one_field}
use Rattle.cue_places.proofs.Values.{field_line, at_row}
use Rattle.cue_places.proofs.value.text_at.Goals as goal

pub with_field-requires-clause-some : goal.with_field-requires-clause-some
with_field-requires-clause-some c = subst IsTreeTaken (sym c.in_ok-copy.ensures) (at_row c.args.table.now c.args.level c.requires).1

pub returns : goal.returns
returns c = λ deep.
    let table = c.args.table.now in
    let value = line (value_text (value_of table)) in
    let is : c.in_ok-field.field ≡ one_field table = c.in_ok-field.ensures ∙ ap one_field c.in_ok-copy.ensures in
    let level = (at_row table c.args.level c.requires).0 in
    c.value_in.ensures value (c.as_str.ensures.value ∙ c.in_ok-text.ensures ∙ field_line table c.in_ok-field.field is ∙ ap (λ l. (quote_text name ++ mark_text l) ++ value) level)
