use Rattle.std.proofs.Common.{slice_index}
use Rattle.cue_scope.specs.Ordering.{graph_of}
use Rattle.cue_scope.proofs.Nodes.{falls_no_cycle, target_inside}
use Rattle.cue_scope.proofs.graph.is_cyclic.Goals as goal

pub returns-then-descends_from-clause-reaches : goal.returns-then-descends_from-clause-reaches
returns-then-descends_from-clause-reaches c =
    let falls = rw c.if-falls.true at c.requires.falls in
    (λ e. absurd (cc), λ r. absurd (falls_no_cycle (graph_of c.args.graph.now) (λ i. slice_index c.args.components.now.numbers.items i) falls c.args.node c.if-descends_from.ensures r))

pub flood-requires-clause-inside : goal.flood-requires-clause-inside
flood-requires-clause-inside c = λ j is. target_inside c.args.graph.now c.args.node j _ c.requires.closed c.targets.ensures is
