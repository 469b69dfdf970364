use Rattle.std.proofs.Common.{arith, ◌<◌, suc, false, length, get_or, drop, sym, subst, ◌∙◌, add-one}
use Rattle.std.proofs.Math.Seq.{drop-cons}
use Rattle.std.proofs.lemmas.List.{get_or_read}
use Rattle.cue_scope.proofs.Nodes.{in_at}
use Rattle.cue_scope.proofs.Flooding.{Spreading, count_flags, spreading_skip, spreading_add}
use Rattle.cue_scope.proofs.graph.spread.Goals as goal
use Rattle.cue_scope.proofs.graph.spread.Goals.{then-not-index, else-not-index}

pub index-requires : goal.index-requires
index-requires c =
    let inside = c.requires.inside (get_or c.args.nodes.now c.loop-node.node-index 0) (in_at c.args.nodes.now c.loop-node.node-index (omega arith)) in
    let same = c.loop-node.invariant.spreading.lengths in
    omega arith

pub index_mut-requires : goal.index_mut-requires
index_mut-requires c =
    let inside = c.requires.inside (get_or c.args.nodes.now c.loop-node.node-index 0) (in_at c.args.nodes.now c.loop-node.node-index (omega arith)) in
    let same = c.loop-node.invariant.spreading.lengths in
    omega arith

pub push_reserved-requires : goal.push_reserved-requires
push_reserved-requires c =
    let inside : get_or c.args.nodes.now c.loop-node.node-index 0 < length c.loop-node.reached.items =
    let first = c.requires.inside (get_or c.args.nodes.now c.loop-node.node-index 0) (in_at c.args.nodes.now c.loop-node.node-index (omega arith)) in let same = c.loop-node.invariant.spreading.lengths in omega arith in
    let read = get_or_read c.loop-node.reached.items (get_or c.args.nodes.now c.loop-node.node-index 0) c.index.result.now inside c.index.ensures false in
    let one_less = count_flags c.loop-node.reached.items (get_or c.args.nodes.now c.loop-node.node-index 0) inside (sym read ∙ c.if-not-index.true) in
    let left = c.loop-node.invariant.spreading.left in
    let room = c.requires.room in
    let same_room = c.loop-node.invariant.room in
    omega arith

pub loop-node-preserved : goal.loop-node-preserved
loop-node-preserved c =
    let x = get_or c.args.nodes.now c.loop-node.node-index 0 in
    let listed = in_at c.args.nodes.now c.loop-node.node-index (omega arith) in
    let inside : get_or c.args.nodes.now c.loop-node.node-index 0 < length c.loop-node.reached.items =
    let first = c.requires.inside (get_or c.args.nodes.now c.loop-node.node-index 0) listed in let same = c.loop-node.invariant.spreading.lengths in omega arith in
    let read = get_or_read c.loop-node.reached.items (get_or c.args.nodes.now c.loop-node.node-index 0) c.index.result.now inside c.index.ensures false in
    let here = drop-cons c.args.nodes.now c.loop-node.node-index 0 c.loop-node-test.true in
    let so_far = subst (λ z. Spreading c.args.reached.now.items c.loop-node.reached.items c.args.waiting.now.items c.loop-node.waiting.items c.args.nodes.now z) here c.loop-node.invariant.spreading in
    elim c.if-not-index.branch [
      | then-not-index w ↦ rw (w.reached-is, w.waiting-is, w.push_reserved.ensures.items, add-one) (record {
        spreading = spreading_add c.args.reached.now.items c.loop-node.reached.items c.args.waiting.now.items c.loop-node.waiting.items c.args.nodes.now
            (get_or c.args.nodes.now c.loop-node.node-index 0) (drop (suc c.loop-node.node-index) c.args.nodes.now) so_far listed inside (sym read ∙ w.if-not-index.true);
        room = w.push_reserved.ensures.capacity ∙ c.loop-node.invariant.room;
      })
      | else-not-index w ↦ rw (w.reached-is, w.waiting-is, add-one) (record {
        spreading = spreading_skip c.args.reached.now.items c.loop-node.reached.items c.args.waiting.now.items c.loop-node.waiting.items c.args.nodes.now
            (get_or c.args.nodes.now c.loop-node.node-index 0) (drop (suc c.loop-node.node-index) c.args.nodes.now) so_far (sym read ∙ w.if-not-index.false);
        room = c.loop-node.invariant.room;
      })
    ]
