use Rattle.std.proofs.Common.{arith, ◌≡◌, ◌<◌, ◌-◌, ◌^◌, ◌++◌, min, length, inr, refl, sym, ap, ◌∙◌, subst}
use Rattle.std.proofs.lemmas.Result.{err_from_is_err_and}
use Rattle.cue_syntax.specs.Syntax.{entries}
use Rattle.cue_scope.specs.declared.resolved.Resolved.TheInside.{Inside}
use Rattle.cue_scope.specs.Core.{is_scalar}
use Rattle.cue_scope.specs.Definitions.{definitions}
use Rattle.cue_scope.specs.Graph.{IsAcyclic, IsClosed, IsNodeIn, IsOrder}
use Rattle.cue_scope.specs.Kept.{nodes_kept}
use Rattle.cue_scope.specs.Meaning.{meaning_of_number}
use Rattle.cue_scope.specs.Measures.{IsMeasured, as_literal, total_of_file}
use Rattle.cue_scope.specs.Ordering.{graph_of}
use Rattle.cue_scope.specs.Refusing.{IsLegalTree}
use Rattle.cue_scope.specs.Reached.{IsReachedOrder, times_in_list, targets_of}
use Rattle.cue_scope.specs.Written.{written_uses}
use Rattle.cue_scope.specs.Resolving.{Keeps}
use Rattle.cue_scope.specs.Uses.{graph, uses_of_fields}
use Rattle.cue_scope.proofs.Inside.{closed_graph, fields_below, below_is}
use Rattle.cue_scope.proofs.Kept.{reached_below}
use Rattle.cue_scope.proofs.Meanings.{length_graph, meaning_is}
use Rattle.cue_scope.proofs.Nodes.{length_graph_of}
use Rattle.cue_scope.proofs.Resolving.{refuses_stopped, refuses_beyond, ordered_text, legal_text, text_total}
use Rattle.cue_scope.proofs.resolved.resolve.Goals as goal

pub returns-in_err-uses-clause-refused : goal.returns-in_err-uses-clause-refused
returns-in_err-uses-clause-refused c =
    let p = err_from_is_err_and c.from_residual-in_err-uses.result c.from_residual-in_err-uses.ensures.1 in
    let es = entries c.as_slice-declarations.result.now in
    let refused = refuses_stopped es c.in_err-uses.field-0.0 c.in_ok-definitions.ensures.unrepeated c.in_err-uses.ensures.refused in
    rw (p.1, p.2, ← c.as_slice-declarations.ensures.value) refused

pub returns-in_err-check-clause-refused : goal.returns-in_err-check-clause-refused
returns-in_err-check-clause-refused c =
    let p = err_from_is_err_and c.from_residual-in_err-check.result c.from_residual-in_err-check.ensures.1 in
    let es = entries c.as_slice-declarations.result.now in
    let all = c.in_ok-definitions.ensures.all in
    let measured = subst (λ z. IsMeasured c.measure-whole.result (as_literal 1 (total_of_file z es))) all c.measure-whole.ensures in
    let acyclic = subst (λ z. IsAcyclic (graph z)) all c.in_ok-order.ensures.acyclic in
    let ordered = ordered_text es c.in_ok-definitions.ensures.unrepeated c.in_ok-uses.ensures.named acyclic in
    let refused = refuses_beyond es c.in_err-check.field-0.0 ordered (c.in_err-check.ensures.beyond (text_total es) measured) in
    rw (p.1, p.2, ← c.as_slice-declarations.ensures.value) (inr refused)

pub keep_reached-requires-clause-closed : goal.keep_reached-requires-clause-closed
keep_reached-requires-clause-closed c =
    let ds = nodes_kept c.in_ok-definitions.definitions in
    let same : graph_of c.deref-3.result.now ≡ graph ds = ap graph_of c.deref-3.ensures.value ∙ c.in_ok-uses.ensures.graph in
    subst (λ z. IsClosed z) (sym same) (closed_graph ds)

pub keep_reached-requires-clause-inside : goal.keep_reached-requires-clause-inside
keep_reached-requires-clause-inside c = λ i there.
    let ds = nodes_kept c.in_ok-definitions.definitions in
    let es = entries c.as_slice-declarations.result.now in
    let same : graph_of c.deref-3.result.now ≡ graph ds = ap graph_of c.deref-3.ensures.value ∙ c.in_ok-uses.ensures.graph in
    let used = rw (c.deref-4.ensures.value, c.in_ok-uses.ensures.fields) at there in
    let below : i < length ds = below_is (length ds) (uses_of_fields ds es) (fields_below ds es) i used in
    let l = ap length same in let a = length_graph ds ds in let b = length_graph_of c.deref-3.result.now in
    omega arith

pub counts_of-requires-clause-closed : goal.counts_of-requires-clause-closed
counts_of-requires-clause-closed c =
    let ds = nodes_kept c.in_ok-definitions.definitions in
    let same : graph_of c.deref-6.result.now ≡ graph ds = ap graph_of c.deref-6.ensures.value ∙ c.in_ok-uses.ensures.graph in
    subst (λ z. IsClosed z) (sym same) (closed_graph ds)

pub counts_of-requires-clause-inside : goal.counts_of-requires-clause-inside
counts_of-requires-clause-inside c = λ i there.
    let ds = nodes_kept c.in_ok-definitions.definitions in
    let es = entries c.as_slice-declarations.result.now in
    let same : graph_of c.deref-6.result.now ≡ graph ds = ap graph_of c.deref-6.ensures.value ∙ c.in_ok-uses.ensures.graph in
    let used = rw (c.deref-7.ensures.value, c.in_ok-uses.ensures.fields) at there in
    let below : i < length ds = below_is (length ds) (uses_of_fields ds es) (fields_below ds es) i used in
    let l = ap length same in let a = length_graph ds ds in let b = length_graph_of c.deref-6.result.now in
    omega arith

pub counts_of-requires-clause-nodes : goal.counts_of-requires-clause-nodes
counts_of-requires-clause-nodes c = λ i there.
    let ds = nodes_kept c.in_ok-definitions.definitions in
    let es = entries c.as_slice-declarations.result.now in
    let same : graph_of c.deref-6.result.now ≡ graph ds = ap graph_of c.deref-6.ensures.value ∙ c.in_ok-uses.ensures.graph in
    let edges : graph_of c.deref-3.result.now ≡ graph ds = ap graph_of c.deref-3.ensures.value ∙ c.in_ok-uses.ensures.graph in
    let starts : c.deref-4.result.now ≡ uses_of_fields ds es = c.deref-4.ensures.value ∙ c.in_ok-uses.ensures.fields in
    let kept = subst (λ z. IsReachedOrder z (uses_of_fields ds es) c.in_ok-order-2.order.items) edges
    (subst (λ z. IsReachedOrder (graph_of c.deref-3.result.now) z c.in_ok-order-2.order.items) starts c.in_ok-order-2.ensures.kept) in
    let below : i < length ds = reached_below ds es c.in_ok-order-2.order.items kept i (subst (λ z. IsNodeIn i z) c.deref-8.ensures.value there) in
    let l = ap length same in let a = length_graph ds ds in let b = length_graph_of c.deref-6.result.now in
    omega arith

pub returns-clause-legal : goal.returns-clause-legal
returns-clause-legal c =
    let es = entries c.as_slice-declarations.result.now in
    let all = c.in_ok-definitions.ensures.all in
    let measured = subst (λ z. IsMeasured c.measure-whole.result (as_literal 1 (total_of_file z es))) all c.measure-whole.ensures in
    let acyclic = subst (λ z. IsAcyclic (graph z)) all c.in_ok-order.ensures.acyclic in
    let ordered = ordered_text es c.in_ok-definitions.ensures.unrepeated c.in_ok-uses.ensures.named acyclic in
    subst (λ z. IsLegalTree (entries z)) c.as_slice-declarations.ensures.value (legal_text es ordered (c.in_ok-check.ensures.within (text_total es) measured))

pub invariant_of-result : goal.invariant_of-result
invariant_of-result c =
    let es = entries c.as_slice-declarations.result.now in
    let all = c.in_ok-definitions.ensures.all in
    let measured = subst (λ z. IsMeasured c.measure-whole.result (as_literal 1 (total_of_file z es))) all c.measure-whole.ensures in
    let within = c.in_ok-check.ensures.within (text_total es) measured in
    let acyclic = subst (λ z. IsAcyclic (graph z)) all c.in_ok-order.ensures.acyclic in
    let ordered = ordered_text es c.in_ok-definitions.ensures.unrepeated c.in_ok-uses.ensures.named acyclic in
    let edges : graph_of c.deref-3.result.now ≡ graph (definitions es) = ap graph_of c.deref-3.ensures.value ∙ c.in_ok-uses.ensures.graph ∙ ap graph all in
    let starts : c.deref-4.result.now ≡ uses_of_fields (definitions es) es = c.deref-4.ensures.value ∙ c.in_ok-uses.ensures.fields ∙ ap (λ z. uses_of_fields z es) all in
    let kept = subst (λ z. IsReachedOrder z (uses_of_fields (definitions es) es) c.in_ok-order-2.order.items) edges
    (subst (λ z. IsReachedOrder (graph_of c.deref-3.result.now) z c.in_ok-order-2.order.items) starts c.in_ok-order-2.ensures.kept) in
    let counted : c.measure-whole.result.size ≡ (text_total es).size = let e = measured.size in let f = within.size in omega arith in
    let again : graph_of c.deref-6.result.now ≡ graph (definitions es) = ap graph_of c.deref-6.ensures.value ∙ c.in_ok-uses.ensures.graph ∙ ap graph all in
    let again_from : c.deref-7.result.now ≡ uses_of_fields (definitions es) es = c.deref-7.ensures.value ∙ c.in_ok-uses.ensures.fields ∙ ap (λ z. uses_of_fields z es) all in
    let many : length c.deref-6.result.now ≡ length (definitions es) = sym (length_graph_of c.deref-6.result.now) ∙ ap length again ∙ length_graph (definitions es) (definitions es) in
    let written : c.deref-7.result.now ++ targets_of (graph_of c.deref-6.result.now) c.deref-8.result.now ≡ written_uses (definitions es) es c.in_ok-order-2.order.items = rw (again, again_from, c.deref-8.ensures.value) refl in
    let counts = c.in_ok-counts.ensures.counted in
    let found : Inside = record {
      file = c.args.file;
      definitions = c.in_ok-definitions.definitions;
      measures = c.in_ok-measures.measures;
      order = c.in_ok-order-2.order;
      counts = c.in_ok-counts.counts;
      size = c.measure-whole.result.size;
    } in
    subst (λ z. Keeps found (entries z)) c.as_slice-declarations.ensures.value (record {
      legal = legal_text es ordered within;
      defined = all;
      uses = meaning_is (definitions es) c.in_ok-order.order.items (subst (λ z. IsOrder (graph z) c.in_ok-order.order.items) all c.in_ok-order.ensures.ordered);
      measured = c.in_ok-measures.ensures.length ∙ ap length all;
      scalar = λ i d h. (c.in_ok-measures.ensures.measured i d (subst (λ z. i < length z) (sym all) h)).scalar ∙ ap (λ z. is_scalar (meaning_of_number z i)) all;
      order = kept;
      counts = c.in_ok-counts.ensures.length ∙ many;
      counted = λ i h. counts i (omega arith) ∙ ap (λ z. min (times_in_list i z) (2 ^ 64 - 1)) written;
      size = counted;
    })
