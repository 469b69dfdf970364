use Rattle.std.proofs.Common.{◌≡◌, ◌+◌, ◌*◌, ◌-◌, ◌≤◌, map, false}
use Rattle.cue_table.specs.Spans.{branches_of_spans}
use Rattle.cue_table.specs.StepsOfCode.{step_at}
use Rattle.cue_table.specs.Size.{tree_size}
use Rattle.cue_table.specs.Tree.{row_of, below}
use Rattle.cue_report.specs.Inner.Search.{conflicts_under, each_index, conflicts_in}
use Rattle.cue_report.specs.Inner.Telling.{WritesPieces}
use Rattle.cue_report.proofs.Walk.{IsWalking}
use Rattle.cue_report.proofs.conflict.ConflictSearch.+walk.Given as goal

abbrev pub decreases-visit : goal.decreases-visit
decreases-visit g l = 3 * tree_size l.branch.now + 1

abbrev pub decreases-visit_span : goal.decreases-visit_span
decreases-visit_span g l = 3 * tree_size l.child.now + 3

abbrev pub decreases-visit_rest : goal.decreases-visit_rest
decreases-visit_rest g l = 3 * tree_size l.branch.now

abbrev pub decreases-visit_run : goal.decreases-visit_run
decreases-visit_run g l = 3 * tree_size l.element.now + 2

abbrev pub invariant-visit-loop-span : goal.invariant-visit-loop-span
invariant-visit-loop-span g l =
    let tally = g.S.ConflictSink.tally in
    IsWalking g.S.ConflictSink.piece (row_of l.branch) (below l.branch) (branches_of_spans l.span-iterator) (tally l.initial.self.sink l.initial.out) (tally l.self.sink l.out) l.initial.self.steps.items l.self.steps.items

abbrev pub invariant-visit_run-loop-number : goal.invariant-visit_run-loop-number
invariant-visit_run-loop-number g l =
    let tally = g.S.ConflictSink.tally in
    (l.first ≤ l.number) × (l.number - l.first ≤ l.end - l.first) × (l.self.steps.items ≡ l.fn.self.steps.items)
    × WritesPieces (tally l.fn.self.sink l.fn.out) (tally l.self.sink l.out)
    (conflicts_under g.S.ConflictSink.piece (map step_at l.fn.self.steps.items) (each_index l.first (l.number - l.first) (conflicts_in false l.element)))
