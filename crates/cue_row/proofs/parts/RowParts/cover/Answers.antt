use Rattle.cue_row.proofs.CoveredRows.{form_covers}
use Rattle.cue_row.proofs.parts.RowParts.cover.Goals as goal

pub returns : goal.returns
returns c = λ e a b.
    form_covers c.args.self.now c.args.other.now a b (c.is_form_within.ensures c.if-not-is_form_within.false)
    (c.allow_all_labels.ensures c.if-not-allow_all_labels.false) (c.is_empty.ensures.0 c.if-not-is_empty.false) (c.is_empty-2.ensures.0 e)
