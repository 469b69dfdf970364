use Rattle.cue_row.specs.LabelLaws.{met_labels, met_labels-refuse}
use Rattle.cue_row.proofs.labels.LabelSetNarrow.meet.Goals as goal

pub invariant_of-result : goal.invariant_of-result
invariant_of-result c = met_labels c.self.inside.set c.other.inside.set c.in_ok-set.set c.self.invariant c.other.invariant c.known.ensures c.in_ok-set.ensures

pub returns : goal.returns
returns c =
    rw (← c.self.view_is, ← c.other.view_is)
    (met_labels-refuse c.self.inside.set c.other.inside.set c.in_ok-set.set c.self.invariant c.other.invariant c.known.ensures c.in_ok-set.ensures)
