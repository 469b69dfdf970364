use Rattle.cue_scope.specs.Ordering.{graph_of}
use Rattle.cue_scope.proofs.Placing.{placed_acyclic, placed_order}
use Rattle.cue_scope.proofs.graph.order_of.Goals as goal

pub returns-in-None-clause-ordered : goal.returns-in-None-clause-ordered
returns-in-None-clause-ordered c =
    let all = rw c.deref-2.ensures.value at c.in-None.ensures in (
      placed_acyclic (graph_of c.args.graph.now) c.in_ok-placed.placed.order.items c.in_ok-placed.placed.ranks.items c.in_ok-placed.ensures.placed all,
      placed_order (graph_of c.args.graph.now) c.in_ok-placed.placed.order.items c.in_ok-placed.placed.ranks.items c.in_ok-placed.ensures.placed all,
    )
