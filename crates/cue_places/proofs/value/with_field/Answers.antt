use Rattle.std.proofs.Common.{◌∷◌, ◌++◌, [], sym, ap, ◌∙◌}
use Rattle.cue_row.specs.Made.{struct_row}
use Rattle.cue_row.specs.declared.level.Level.TheVariants.{Optional}
use Rattle.cue_row.specs.declared.step.Step.TheVariants.{Label}
use Rattle.cue_places.proofs.Values.{made_field}
use Rattle.cue_places.proofs.value.with_field.Goals as goal

pub returns : goal.returns
returns c =
    made_field c.args.value c.in_ok-table.table c.meet_row.new.self c.push.new.self.items c.in_ok-from_str.field-0 c.in_ok-row.row c.root-form.ensures.form c.requires.some c.in_ok-from_str.ensures.text
    (c.in_ok-push.ensures.items ∙ ap (λ xs. xs ++ (Label c.in_ok-from_str.field-0, c.args.value) ∷ []) c.new-fields.ensures.items) c.in_ok-table.ensures.refused
    c.known.ensures (c.in_ok-row.ensures ∙ ap (struct_row Optional) c.all.ensures) c.in_ok-meet_row.ensures.form c.in_ok-meet_row.ensures.ok
