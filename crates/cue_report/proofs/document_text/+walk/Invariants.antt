use Rattle.std.proofs.Common.{◌+◌}
use Rattle.cue_table.specs.Size.{tree_size}
use Rattle.cue_report.specs.Stream.{flow_of}
use Rattle.cue_report.proofs.Writing.{AreItemsSoFar, AreMembersSoFar}
use Rattle.cue_report.proofs.document_text.+walk.Given as goal

abbrev pub decreases-write_document : goal.decreases-write_document
decreases-write_document g l = tree_size l.branch.now + tree_size l.branch.now + 1

abbrev pub decreases-write_members : goal.decreases-write_members
decreases-write_members g l = tree_size l.branch.now + tree_size l.branch.now

abbrev pub decreases-write_elements : goal.decreases-write_elements
decreases-write_elements g l = tree_size l.branch.now + tree_size l.branch.now

abbrev pub invariant-write_members-loop-step : goal.invariant-write_members-loop-step
invariant-write_members-loop-step g l =
    AreMembersSoFar l.branch l.step-iterator (flow_of (g.S.TextSink.taken l.fn.out) l.fn.stream) (flow_of (g.S.TextSink.taken l.out) l.stream)

abbrev pub invariant-write_elements-loop-number : goal.invariant-write_elements-loop-number
invariant-write_elements-loop-number g l =
    AreItemsSoFar l.branch l.number (flow_of (g.S.TextSink.taken l.fn.out) l.fn.stream) (flow_of (g.S.TextSink.taken l.out) l.stream)
