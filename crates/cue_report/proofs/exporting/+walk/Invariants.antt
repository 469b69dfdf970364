use Rattle.std.proofs.Common.{◌+◌}
use Rattle.cue_table.specs.Size.{tree_size}
use Rattle.serde_json.specs.View.{items_view, members_view}
use Rattle.cue_report.proofs.DocumentMembers.{IsGathered}
use Rattle.cue_report.proofs.Documents.{IsCounted}
use Rattle.cue_report.proofs.exporting.+walk.Given as goal

abbrev pub decreases-document_of : goal.decreases-document_of
decreases-document_of l = tree_size l.branch.now + tree_size l.branch.now + 1

abbrev pub decreases-members_of : goal.decreases-members_of
decreases-members_of l = tree_size l.branch.now + tree_size l.branch.now

abbrev pub decreases-elements_of : goal.decreases-elements_of
decreases-elements_of l = tree_size l.branch.now + tree_size l.branch.now

abbrev pub invariant-members_of-loop-step : goal.invariant-members_of-loop-step
invariant-members_of-loop-step l = IsGathered l.branch l.step-iterator (members_view l.members.entries)

abbrev pub invariant-elements_of-loop-number : goal.invariant-elements_of-loop-number
invariant-elements_of-loop-number l = IsCounted l.branch l.number (items_view l.elements.items)
