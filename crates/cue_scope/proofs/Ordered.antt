-- Definitions are measured in an order in which each comes after those that it uses.
use Rattle.std.proofs.Common.{◌≡◌, ℕ, ◌+◌, ◌<◌, arith, List, length, get_or, sym, ap, subst, ◌∙◌, ⊎_elim}
use Rattle.std.proofs.Math.ListN.{set, length-set}
use Rattle.std.proofs.Common.{get_or-set_same, get_or-set_other}
use Rattle.std.proofs.lemmas.Bool.Decides.{eqb_tells}
use Rattle.cue_scope.specs.declared.measure.Measure.{Measure}
use Rattle.cue_scope.specs.declared.measure.KnownMeasures.{KnownMeasures}
use Rattle.cue_scope.specs.Definitions.{Definition}
use Rattle.cue_scope.specs.Graph.{IsOrder, targets}
use Rattle.cue_scope.specs.Kept.{nodes_kept}
use Rattle.cue_scope.specs.Meaning.{meaning_of_number}
use Rattle.cue_scope.specs.Measures.{IsUse, IsMeasureKnown}
use Rattle.cue_scope.specs.Uses.{graph}
use Rattle.cue_scope.proofs.Nodes.{in_index, in_at}
use Rattle.cue_scope.proofs.Meanings.{length_graph}

pub record IsMeasuredSoFar (ds : List Definition) (order : List ℕ) (count : ℕ) (measures : List Measure) : Type 0 where
  pub lengths : length measures ≡ length ds
  pub measured : (k : ℕ) (d : Measure) → k < count → k < length order → IsUse (get_or measures (get_or order k 0) d) (meaning_of_number ds (get_or order k 0))

pub measured_none : (ds : List Definition) (order : List ℕ) (measures : List Measure) → length measures ≡ length ds → IsMeasuredSoFar ds order 0 measures
measured_none ds order measures h = record { lengths = h; measured = λ k d l m. absurd (omega arith) }

pub node_inside : (ds : List Definition) (order : List ℕ) → IsOrder (graph ds) order → (k : ℕ) → k < length order → get_or order k 0 < length ds
node_inside ds order o k h = let a = o.nodes (get_or order k 0) (in_at order k h) in let b = length_graph ds ds in omega arith

-- those that the next definition uses are measured
pub known_next : (known : KnownMeasures) (order : List ℕ) (k : ℕ) → IsOrder (graph (nodes_kept known.definitions.now)) order → k < length order → IsMeasuredSoFar (nodes_kept known.definitions.now) order k known.measures.now
    → IsMeasureKnown known (targets (graph (nodes_kept known.definitions.now)) (get_or order k 0))
known_next known order k o h m = λ j there.
    let ds = nodes_kept known.definitions.now in
    let before = o.after k j h there in
    let same : get_or order before.0 0 ≡ j = before.2 in
    let less : before.0 < k = before.1 in
    let inside : get_or order before.0 0 < length ds = node_inside ds order o before.0 (omega arith) in
    let long = m.lengths in
    subst (λ z. (z < length known.measures.now) × ((d : Measure) → IsUse (get_or known.measures.now z d) (meaning_of_number ds z))) same
    (omega arith, λ d. m.measured before.0 d less (omega arith))

pub measured_more : (ds : List Definition) (order : List ℕ) (k : ℕ) (measures : List Measure) (m : Measure) → IsOrder (graph ds) order → k < length order → IsMeasuredSoFar ds order k measures
    → IsUse m (meaning_of_number ds (get_or order k 0)) → IsMeasuredSoFar ds order (k + 1) (set measures (get_or order k 0) m)
measured_more ds order k measures m o h w x = record {
  lengths = length-set measures (get_or order k 0) m ∙ w.lengths;
  measured = λ j d less inside.
      let n = get_or order k 0 in
      let i = get_or order j 0 in
      let within : n < length measures = let a = node_inside ds order o k h in let b = w.lengths in omega arith in
      ⊎_elim
      (λ t. let same : i ≡ n = ap (λ z. get_or order z 0) t.1 in
      subst (λ z. IsUse (get_or (set measures n m) z d) (meaning_of_number ds z)) (sym same) (subst (λ z. IsUse z (meaning_of_number ds n)) (sym (get_or-set_same measures n m d within)) x))
      (λ f. let apart : i ≡ n → ⊥ = λ e. f.1 (o.once j k inside h e) in
      subst (λ z. IsUse z (meaning_of_number ds i)) (sym (get_or-set_other measures n i m d apart)) (w.measured j d (let e = f.1 in omega arith) inside))
      (eqb_tells j k);
}

pub measured_all : (ds : List Definition) (order : List ℕ) (measures : List Measure) → IsOrder (graph ds) order → IsMeasuredSoFar ds order (length order) measures
    → (i : ℕ) (d : Measure) → i < length ds → IsUse (get_or measures i d) (meaning_of_number ds i)
measured_all ds order measures o w i d h =
    let same = length_graph ds ds in
    let found = in_index order i (o.all i (omega (arith, same))) in
    subst (λ z. IsUse (get_or measures z d) (meaning_of_number ds z)) found.2 (w.measured found.0 d found.1 found.1)
