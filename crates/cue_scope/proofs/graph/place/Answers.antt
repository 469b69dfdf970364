use Rattle.std.proofs.Common.{◌≡◌, true, get_or, sym, ◌∙◌}
use Rattle.cue_scope.specs.Ordering.{graph_of}
use Rattle.cue_scope.specs.Inner.Ordering.{is_ready}
use Rattle.cue_scope.proofs.Placing.{placed_add}
use Rattle.cue_scope.proofs.graph.place.Goals as goal
use Rattle.cue_scope.proofs.graph.place.Goals.{then-is_ready+in_ok-add, else-is_ready}

pub loop-node-preserved : goal.loop-node-preserved
loop-node-preserved c =
    elim c.if-is_ready.branch [
      | then-is_ready+in_ok-add w ↦
          let ready : is_ready (graph_of c.args.graph.now) c.loop-node.ranks.items (get_or c.args.nodes.now c.loop-node.node-index 0) ≡ true = rw (← c.deref.ensures.value) (sym c.is_ready.ensures ∙ w.if-is_ready.true) in
          rw (w.order-is, w.ranks-is, w.in_ok-add.ensures.order, w.in_ok-add.ensures.ranks) (placed_add (graph_of c.args.graph.now) c.loop-node.order.items c.loop-node.ranks.items _ c.loop-node.invariant ready)
      | else-is_ready w ↦ rw (w.order-is, w.ranks-is) c.loop-node.invariant
    ]

pub loop-node-2-preserved : goal.loop-node-2-preserved
loop-node-2-preserved c =
    let ready : is_ready (graph_of c.args.graph.now) c.loop-node-2.ranks.items c.in-Some.node ≡ true = rw (← c.deref-in-loop-node-2.ensures.value) c.in-Some.ensures in
    rw (c.in_ok-add-2.ensures.order, c.in_ok-add-2.ensures.ranks) (placed_add (graph_of c.args.graph.now) c.loop-node-2.order.items c.loop-node-2.ranks.items c.in-Some.node c.loop-node-2.invariant ready)
