use Rattle.std.proofs.Common.{arith, ◌≡◌, ◌<◌, ⊎_elim, Some, length, sym, subst, refl, ◌∙◌}
use Rattle.cue_scope.specs.Graph.{targets, PointsTo, Reaches, start, go_on}
use Rattle.cue_scope.specs.Ordering.{graph_of}
use Rattle.cue_scope.specs.Inner.Ordering.{first_open}
use Rattle.cue_scope.proofs.Nodes.{target_inside, first_open_Some}
use Rattle.cue_scope.proofs.Flooding.{flag_at, length_flags}
use Rattle.cue_scope.proofs.graph.find_cycle.Goals as goal

pub first_open-requires : goal.first_open-requires
first_open-requires c = λ j is.
    let inside : j < length c.args.graph.now = target_inside c.args.graph.now c.loop-passed.node j c.targets.result.now c.requires.closed c.targets.ensures is in
    let same = c.requires.lengths in
    omega arith

pub loop-passed-preserved : goal.loop-passed-preserved
loop-passed-preserved c =
    let node = c.loop-passed.node in
    let next = c.unwrap-node.result in
    let graph = graph_of c.args.graph.now in
    let is : first_open c.args.ranks.now (targets (graph_of c.args.graph.now) c.loop-passed.node) ≡ Some c.unwrap-node.result = cc in
    let found = first_open_Some c.args.ranks.now (targets (graph_of c.args.graph.now) c.loop-passed.node) c.unwrap-node.result is in
    let points : PointsTo (graph_of c.args.graph.now) c.loop-passed.node c.unwrap-node.result = found.0 in
    let inside : c.unwrap-node.result < length c.args.graph.now = target_inside c.args.graph.now c.loop-passed.node c.unwrap-node.result (targets (graph_of c.args.graph.now) c.loop-passed.node) c.requires.closed refl points in
    let same = c.requires.lengths in
    record {
      inside = omega arith;
      unplaced = found.1;
      lengths = length_flags c.loop-passed.passed.items c.loop-passed.node ∙ c.loop-passed.invariant.lengths;
      passed = λ m h. ⊎_elim
          (λ a. subst (λ z. Reaches (graph_of c.args.graph.now) z c.unwrap-node.result) (sym a.0) (start c.unwrap-node.result points))
          (λ b. go_on c.loop-passed.node c.unwrap-node.result (c.loop-passed.invariant.passed m (sym b.1 ∙ h)) points)
          (flag_at c.loop-passed.passed.items c.loop-passed.node m (let a = c.loop-passed.invariant.inside in let b = c.loop-passed.invariant.lengths in omega arith));
    }
