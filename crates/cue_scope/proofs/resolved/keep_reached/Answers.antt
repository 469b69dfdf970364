use Rattle.std.proofs.Common.{arith, ◌<◌, ◌≤◌, false, length, get_or, sym, ◌∙◌, add-one}
use Rattle.std.proofs.lemmas.List.{get_or_read}
use Rattle.cue_scope.specs.Graph.{AreNodes}
use Rattle.cue_scope.specs.Ordering.{graph_of}
use Rattle.cue_scope.proofs.Nodes.{in_at, length_graph_of}
use Rattle.cue_scope.proofs.Kept.{kept_none, kept_same, kept_more, kept_all}
use Rattle.cue_scope.proofs.resolved.keep_reached.Goals as goal
use Rattle.cue_scope.proofs.resolved.keep_reached.Goals.{then-index+in_ok-push, else-index}

pub index-requires : goal.index-requires
index-requires c =
    let node = c.requires.ordered.nodes (get_or c.args.order.now c.loop-number.number-index 0) (in_at c.args.order.now c.loop-number.number-index c.loop-number-test.true) in
    let long = c.in_ok-reached.ensures.length in let same = length_graph_of c.args.graph.now in
    omega arith

pub loop-number-init : goal.loop-number-init
loop-number-init c = rw c.new-kept.ensures.items (kept_none (graph_of c.args.graph.now) c.args.from.now c.args.order.now)

pub loop-number-preserved : goal.loop-number-preserved
loop-number-preserved c =
    let n = get_or c.args.order.now c.loop-number.number-index 0 in
    let inside : get_or c.args.order.now c.loop-number.number-index 0 < length c.in_ok-reached.reached.items =
    let node = c.requires.ordered.nodes (get_or c.args.order.now c.loop-number.number-index 0) (in_at c.args.order.now c.loop-number.number-index c.loop-number-test.true) in
    let long = c.in_ok-reached.ensures.length in let same = length_graph_of c.args.graph.now in omega arith in
    let read = get_or_read c.in_ok-reached.reached.items n c.index.result.now inside c.index.ensures false in
    let tells = c.in_ok-reached.ensures.reached n in
    elim c.if-index.branch [
      | then-index+in_ok-push w ↦ rw (w.kept-is, w.in_ok-push.ensures.pushed, add-one) (kept_more (graph_of c.args.graph.now) c.args.from.now c.args.order.now c.loop-number.number-index c.loop-number.kept.items
          c.requires.ordered c.loop-number-test.true (tells.0 (sym read ∙ w.if-index.true)) c.loop-number.invariant)
      | else-index w ↦ rw (w.kept-is, add-one) (kept_same (graph_of c.args.graph.now) c.args.from.now c.args.order.now c.loop-number.number-index c.loop-number.kept.items
          (λ r. let yes = tells.1 r in let no = sym read ∙ w.if-index.false in cc) c.loop-number.invariant)
    ]

pub returns-clause-kept : goal.returns-clause-kept
returns-clause-kept c =
    let first : AreNodes (graph_of c.args.graph.now) c.args.from.now = λ i there. let inside = c.requires.inside i there in let same = length_graph_of c.args.graph.now in omega arith in
    let at_end : length c.args.order.now ≤ c.loop-number.number-index = let e = c.loop-number-test.false in omega arith in
    kept_all (graph_of c.args.graph.now) c.args.from.now c.args.order.now c.loop-number.kept.items c.loop-number.number-index c.requires.ordered c.requires.closed first at_end c.loop-number.invariant
