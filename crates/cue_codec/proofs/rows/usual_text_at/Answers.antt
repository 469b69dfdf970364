use Rattle.std.proofs.Common.{refl}
use Rattle.cue_row.specs.Kept.{text_set}
use Rattle.cue_codec.proofs.RowParts.{scalars_found}
use Rattle.cue_codec.proofs.rows.usual_text_at.Goals as goal

pub returns : goal.returns
returns c =
    let set = text_set c.in_ok-text.text.now in
    scalars_found c.args.bytes.now c.in_ok-text.behind.now c.in_ok-rest.rest.now set set c.in_ok-text.ensures refl (c.in_ok-rest.ensures set c.in_ok-text.ensures)
