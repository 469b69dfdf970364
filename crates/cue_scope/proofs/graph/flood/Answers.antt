use Rattle.std.proofs.Common.{arith, ◌≡◌, ◌+◌, ◌<◌, ℕ, not, sym, Option, None, Some, length, subst, refl, ap, ◌∙◌}
use Rattle.std.proofs.lemmas.List.{length_push}
use Rattle.std.proofs.lemmas.List.Sums.{count_by-le-length}
use Rattle.cue_scope.specs.Ordering.{graph_of}
use Rattle.cue_scope.proofs.Nodes.{target_inside, length_graph_of}
use Rattle.cue_scope.proofs.Flooding.{IsFlooding, flooding_fresh, flooding_step, flooding_end, waits_inside}
use Rattle.cue_scope.proofs.graph.flood.Goals as goal

none_of : (o : Option ℕ) → ((x : ℕ) → o ≡ Some x → ⊥) → o ≡ None
none_of None h = refl
none_of (Some x) h = absurd (h x refl)

pub spread-requires-clause-inside : goal.spread-requires-clause-inside
spread-requires-clause-inside c = λ i is.
    let inside = c.requires.inside i is in
    let same = c.unmark.ensures.length in
    let also = c.requires.flags in
    omega arith

pub spread-requires-clause-room : goal.spread-requires-clause-room
spread-requires-clause-room c =
    let few = count_by-le-length not c.unmark.new.reached.items in
    let same = c.unmark.ensures.length in
    let also = c.requires.flags in
    let empty = ap length c.clear.ensures.items in
    let kept = c.clear.ensures.capacity in
    let room = c.requires.room in
    omega arith

pub loop-node-init : goal.loop-node-init
loop-node-init c =
    let spread = rw c.clear.ensures.items at c.spread.ensures.spread in
    let few = count_by-le-length not c.unmark.new.reached.items in
    let same = c.unmark.ensures.length in
    let also = c.requires.flags in
    let kept = c.clear.ensures.capacity in
    let after = c.spread.ensures.room in
    let room = c.requires.room in
    let left = spread.left in
    record {
      flooding = flooding_fresh (graph_of c.args.graph.now) c.args.from.now c.unmark.new.reached.items c.spread.new.reached.items c.spread.new.waiting.items
          (same ∙ also ∙ sym (length_graph_of c.args.graph.now)) c.unmark.ensures.none spread;
      fits = omega arith;
      room = refl;
    }

pub targets-requires : goal.targets-requires
targets-requires c = waits_inside (graph_of c.args.graph.now) (length c.args.graph.now) c.args.from.now c.loop-node.reached.items c.loop-node.waiting.items c.pop.new.self.items c.in-Some.node (length_graph_of c.args.graph.now) c.loop-node.invariant.flooding c.in-Some.ensures.items

pub spread-requires-in-Some-clause-inside : goal.spread-requires-in-Some-clause-inside
spread-requires-in-Some-clause-inside c = λ j is.
    let inside : j < length c.args.graph.now = target_inside c.args.graph.now c.in-Some.node j c.targets.result.now c.requires.closed c.targets.ensures is in
    let same = c.loop-node.invariant.flooding.lengths in
    let also = length_graph_of c.args.graph.now in
    omega arith

pub spread-requires-in-Some-clause-room : goal.spread-requires-in-Some-clause-room
spread-requires-in-Some-clause-room c =
    let more : length c.loop-node.waiting.items ≡ length c.pop.new.self.items + 1 = ap length c.in-Some.ensures.items ∙ length_push c.pop.new.self.items c.in-Some.node in
    let fits = c.loop-node.invariant.fits in
    let kept = c.pop.ensures.capacity in
    omega arith

pub loop-node-preserved : goal.loop-node-preserved
loop-node-preserved c =
    let before = subst (λ z. IsFlooding (graph_of c.args.graph.now) c.args.from.now c.loop-node.reached.items z) c.in-Some.ensures.items c.loop-node.invariant.flooding in
    let spread = rw c.targets.ensures at c.spread-in-Some.ensures.spread in
    let more : length c.loop-node.waiting.items ≡ length c.pop.new.self.items + 1 = ap length c.in-Some.ensures.items ∙ length_push c.pop.new.self.items c.in-Some.node in
    let left = spread.left in
    let fits = c.loop-node.invariant.fits in
    let kept = c.pop.ensures.capacity in
    let after = c.spread-in-Some.ensures.room in
    record {
      flooding = flooding_step (graph_of c.args.graph.now) c.args.from.now c.loop-node.reached.items c.spread-in-Some.new.reached.items c.pop.new.self.items c.spread-in-Some.new.waiting.items c.in-Some.node before spread;
      fits = omega arith;
      room = after ∙ kept ∙ c.loop-node.invariant.room;
    }

pub returns-clause-reached : goal.returns-clause-reached
returns-clause-reached c =
    let none : c.pop.result ≡ None = none_of c.pop.result c.in_default.not-Some in
    let empty = rw none at c.pop.ensures.cases in
    flooding_end (graph_of c.args.graph.now) c.args.from.now c.loop-node.reached.items c.loop-node.waiting.items (let e = empty.0 in omega arith) c.loop-node.invariant.flooding
