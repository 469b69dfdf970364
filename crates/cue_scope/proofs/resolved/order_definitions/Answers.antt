use Rattle.std.proofs.Common.{arith, ◌≡◌, ◌<◌, length, inr, refl, sym, ap, ◌∙◌, subst}
use Rattle.cue_scope.specs.Graph.{IsClosed, IsFirstCycle}
use Rattle.cue_scope.specs.Kept.{nodes_kept}
use Rattle.cue_scope.specs.Ordering.{graph_of}
use Rattle.cue_scope.specs.Inner.Ordering.{IsOrderOf}
use Rattle.cue_scope.specs.Refusing.{IsCycleAt}
use Rattle.cue_scope.specs.Uses.{graph}
use Rattle.cue_scope.proofs.Inside.{closed_graph}
use Rattle.cue_scope.proofs.Meanings.{length_graph}
use Rattle.cue_scope.proofs.Numbers.{length_listed}
use Rattle.cue_scope.proofs.Resolving.{cycle_at}
use Rattle.cue_scope.proofs.resolved.order_definitions.Goals as goal

pub order_of-requires : goal.order_of-requires
order_of-requires c =
    let same : graph_of c.deref.result.now ≡ graph (nodes_kept c.args.definitions.now) = ap graph_of c.deref.ensures.value ∙ c.requires in
    subst (λ z. IsClosed z) (sym same) (closed_graph (nodes_kept c.args.definitions.now))

pub returns-in-Cycle-clause-refused : goal.returns-in-Cycle-clause-refused
returns-in-Cycle-clause-refused c =
    let ds = nodes_kept c.args.definitions.now in
    let same : graph_of c.deref.result.now ≡ graph ds = ap graph_of c.deref.ensures.value ∙ c.requires in
    let found = subst (λ o. IsOrderOf (graph_of c.deref.result.now) o) c.in-Cycle.is c.in_ok-order.ensures.ordered in
    let first = subst (λ z. IsFirstCycle z c.in-Cycle.number) same found.0 in
    let here = subst (λ z. IsFirstCycle (graph z) c.in-Cycle.number) (sym c.all.ensures) first in
    let inside : c.in-Cycle.number < length c.all.result.now =
    let l = ap length same in let a = found.1 in let b = length_graph ds ds in let d = length_listed c.all.result.now in let e = ap length c.all.ensures in omega arith in
    let at = subst (λ z. IsCycleAt z c.index-all-number.result.from) c.all.ensures (cycle_at c.all.result.now c.in-Cycle.number c.index-all-number.result inside c.index-all-number.is here) in
    rw c.at.ensures (inr (refl, at))
