use Rattle.std.proofs.Common.{sym, ◌∙◌}
use Rattle.cue_row.specs.LabelLaws.{members_of_labels}
use Rattle.cue_row.proofs.labels.LabelSetNarrow.is_free.Goals as goal

pub returns : goal.returns
returns c =
    let same = members_of_labels c.self.inside.set c.self.invariant in
    rw (← c.self.view_is)
    (λ yes label refused. c.is_free.ensures.0 yes label (same label ∙ refused), λ free. c.is_free.ensures.1 (λ label refused. free label (sym (same label) ∙ refused)))
