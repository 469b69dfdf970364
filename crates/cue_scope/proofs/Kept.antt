-- The nodes of an order that are reached keep their order.
use Rattle.std.proofs.Common.{◌≡◌, ℕ, suc, ◌<◌, ◌≤◌, inl, ⊎_elim, arith, List, [], ◌∷◌, ◌++◌, length, get_or, sym, ap, subst, ◌∙◌}
use Rattle.std.proofs.lemmas.Bool.Decides.{eqb_tells}
use Rattle.std.proofs.lemmas.List.{get_or_append_left}
use Rattle.cue_scope.specs.Graph.{IsNodeIn, IsReached, start, go_on, PointsTo, AreNodes, IsClosed, IsOrder}
use Rattle.cue_scope.specs.Definitions.{Definition}
use Rattle.cue_scope.specs.Reached.{IsReachedOrder}
use Rattle.cue_scope.specs.Uses.{graph, uses_of_fields}
use Rattle.cue_syntax.specs.Syntax.{Entries}
use Rattle.cue_scope.proofs.Inside.{closed_graph, fields_below, below_is}
use Rattle.cue_scope.proofs.Meanings.{length_graph}
use Rattle.cue_scope.proofs.Nodes.{in_at, in_index, in_append, in_append_left, in_append_right}
use Rattle.cue_scope.proofs.Placing.{pushed-at}

-- of the first nodes of an order those that are reached were kept
pub record IsKeptSoFar (g : List (List ℕ)) (from order : List ℕ) (count : ℕ) (kept : List ℕ) : Type 0 where
  pub all : (k : ℕ) → k < count → k < length order → IsReached g from (get_or order k 0) → IsNodeIn (get_or order k 0) kept
  pub only : (i : ℕ) → IsNodeIn i kept → IsReached g from i
  pub behind : (i : ℕ) → IsNodeIn i kept → (k : ℕ) × (k < count) × (k < length order) × (get_or order k 0 ≡ i)
  pub after : (k j : ℕ) → k < length kept → PointsTo g (get_or kept k 0) j → (m : ℕ) × (m < k) × (get_or kept m 0 ≡ j)
  pub once : (k m : ℕ) → k < length kept → m < length kept → get_or kept k 0 ≡ get_or kept m 0 → k ≡ m

pub kept_none : (g : List (List ℕ)) (from order : List ℕ) → IsKeptSoFar g from order 0 []
kept_none g from order = record {
  all = λ k l h r. absurd (omega arith);
  only = λ i h. absurd h;
  behind = λ i h. absurd h;
  after = λ k j h p. absurd (omega arith);
  once = λ k m h l e. absurd (omega arith);
}

-- a node that isn't reached is passed by
pub kept_same : (g : List (List ℕ)) (from order : List ℕ) (count : ℕ) (kept : List ℕ) → ¬ IsReached g from (get_or order count 0)
    → IsKeptSoFar g from order count kept → IsKeptSoFar g from order (suc count) kept
kept_same g from order count kept off w = record {
  all = λ k l h r. ⊎_elim
      (λ t. absurd (off (subst (λ z. IsReached g from (get_or order z 0)) t.1 r)))
      (λ f. w.all k (let apart = f.1 in omega arith) h r)
      (eqb_tells k count);
  only = w.only;
  behind = λ i h. let old = w.behind i h in (old.0, (let l = old.1 in omega arith), old.2, old.3);
  after = w.after;
  once = w.once;
}

-- a node that was kept isn't the next of the order
not_kept : (g : List (List ℕ)) (from order : List ℕ) (count : ℕ) (kept : List ℕ) → IsOrder g order → count < length order → IsKeptSoFar g from order count kept
    → ¬ IsNodeIn (get_or order count 0) kept
not_kept g from order count kept o h w there =
    let old = w.behind (get_or order count 0) there in
    let same : old.0 ≡ count = o.once old.0 count old.2 h old.3 in
    let less : old.0 < count = old.1 in
    omega arith

-- a node that is reached is kept
pub kept_more : (g : List (List ℕ)) (from order : List ℕ) (count : ℕ) (kept : List ℕ) → IsOrder g order → count < length order → IsReached g from (get_or order count 0)
    → IsKeptSoFar g from order count kept → IsKeptSoFar g from order (suc count) (kept ++ get_or order count 0 ∷ [])
kept_more g from order count kept o inside reached w =
    let n = get_or order count 0 in
    let apart = not_kept g from order count kept o inside w in
    record {
      all = λ k l h r. ⊎_elim
          (λ t. in_append_right kept (n ∷ []) (get_or order k 0) (inl (ap (λ z. get_or order z 0) t.1)))
          (λ f. in_append_left kept (n ∷ []) (get_or order k 0) (w.all k (let other = f.1 in omega arith) h r))
          (eqb_tells k count);
      only = λ i h. ⊎_elim (λ l. w.only i l) (λ r. ⊎_elim (λ e. subst (λ z. IsReached g from z) (sym e) reached) (λ none. absurd none) r) (in_append kept (n ∷ []) i h);
      behind = λ i h. ⊎_elim
          (λ l. let old = w.behind i l in (old.0, (let less = old.1 in omega arith), old.2, old.3))
          (λ r. ⊎_elim (λ e. (count, omega arith, inside, sym e)) (λ none. absurd none) r)
          (in_append kept (n ∷ []) i h);
      after = λ k j h points. ⊎_elim
          (λ l. let old = w.after k j l.0 (subst (λ z. PointsTo g z j) l.1 points) in
          (old.0, old.1, get_or_append_left kept (n ∷ []) 0 old.0 (let a = old.1 in let b = l.0 in omega arith) ∙ old.2))
          (λ r. let from_n : PointsTo g n j = subst (λ z. PointsTo g z j) r.1 points in
          let before = o.after count j inside from_n in
          let is_j : get_or order before.0 0 ≡ j = before.2 in
          let less : before.0 < count = before.1 in
          let found = in_index kept j (subst (λ z. IsNodeIn z kept) is_j (w.all before.0 less (omega arith) (subst (λ z. IsReached g from z) (sym is_j) (go_on n j reached from_n)))) in
          (found.0, (let a = found.1 in let b = r.0 in omega arith), get_or_append_left kept (n ∷ []) 0 found.0 found.1 ∙ found.2))
          (pushed-at kept n k h);
      once = λ k m hk hm e. ⊎_elim
          (λ a. ⊎_elim
          (λ b. w.once k m a.0 b.0 (sym a.1 ∙ e ∙ b.1))
          (λ b. absurd (apart (subst (λ z. IsNodeIn z kept) (sym a.1 ∙ e ∙ b.1) (in_at kept k a.0))))
          (pushed-at kept n m hm))
          (λ a. ⊎_elim
          (λ b. absurd (apart (subst (λ z. IsNodeIn z kept) (sym b.1 ∙ sym e ∙ a.1) (in_at kept m b.0))))
          (λ b. a.0 ∙ sym b.0)
          (pushed-at kept n m hm))
          (pushed-at kept n k hk);
    }

-- what is reached from nodes is a node
pub reached_nodes : (g : List (List ℕ)) (from : List ℕ) → IsClosed g → AreNodes g from → (i : ℕ) → IsReached g from i → i < length g
reached_nodes g from closed first i (start _ h) = first i h
reached_nodes g from closed first i (go_on j _ r h) = closed j i h

-- at the end of the order all are kept
pub kept_all : (g : List (List ℕ)) (from order kept : List ℕ) (count : ℕ) → IsOrder g order → IsClosed g → AreNodes g from → length order ≤ count
    → IsKeptSoFar g from order count kept → IsReachedOrder g from kept
kept_all g from order kept count o closed first at_end w = record {
  reached = λ i. (
    w.only i,
    λ r.
        let found = in_index order i (o.all i (reached_nodes g from closed first i r)) in
        subst (λ z. IsNodeIn z kept) found.2 (w.all found.0 (let a = found.1 in omega arith) found.1 (subst (λ z. IsReached g from z) (sym found.2) r)),
  );
  after = w.after;
  once = w.once;
}

-- definitions that a text reaches are definitions of it
pub reached_below : (ds : List Definition) (es : Entries) (order : List ℕ) → IsReachedOrder (graph ds) (uses_of_fields ds es) order → (i : ℕ) → IsNodeIn i order → i < length ds
reached_below ds es order o i there =
    let same : length (graph ds) ≡ length ds = length_graph ds ds in
    let first : AreNodes (graph ds) (uses_of_fields ds es) = λ j h. let below : j < length ds = below_is (length ds) (uses_of_fields ds es) (fields_below ds es) j h in omega arith in
    let inside : i < length (graph ds) = reached_nodes (graph ds) (uses_of_fields ds es) (closed_graph ds) first i ((o.reached i).0 there) in
    omega arith
