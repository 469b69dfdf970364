use Rattle.cue_scalars.specs.Scalars.{RefusesScalar}
use Rattle.cue_scalars.proofs.Narrowed.{after-refuses}
use Rattle.cue_row.specs.LabelSets.{RefusesLabel}
use Rattle.cue_row.specs.Made.{at_level}
use Rattle.cue_row.proofs.MetRows.{met_rows}
use Rattle.cue_row.proofs.parts.RowParts.meet_at.Goals as goal

pub returns : goal.returns
returns c =
    let mine = at_level c.args.level c.args.self.now in let theirs = c.args.other in
    met_rows mine theirs _ c.greater.ensures
    (λ x. rw c.in_ok-or_copy.ensures (after-refuses RefusesScalar mine.value theirs.value c.in_ok-value.value c.in_ok-value.ensures x))
    (λ x. rw c.in_ok-or_copy-2.ensures (after-refuses RefusesScalar mine.usual theirs.usual c.in_ok-usual.usual c.in_ok-usual.ensures x))
    c.both.ensures c.both-2.ensures
    (λ l. rw c.in_ok-or_copy-3.ensures (after-refuses RefusesLabel mine.labels theirs.labels c.in_ok-labels.labels c.in_ok-labels.ensures l))
    c.max.ensures c.least_length.ensures
