use Rattle.std.proofs.Common.{refl}
use Rattle.cue_layers_program.proofs.Rows.{counted, head_told, rows_told}
use Rattle.cue_layers_program.proofs.listing.rows_of.Goals as goal

pub returns : goal.returns
returns c =
    let h = head_told c.args.site.now c.in_ok-state_writer.field-0 _ c.fill.new.room c.fill.new.self c.in_ok-fill.field-0 c.in_ok-state_writer.ensures refl c.in_ok-fill.ensures.ok in
    rows_told c.args.site.now h.0 c.from_be_bytes.result h.1 h.2 (counted c.fill.new.room h.0 c.from_be_bytes.result _ h.3 c.from_be_bytes.ensures)
