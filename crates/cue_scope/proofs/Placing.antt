-- Placing a node keeps each rank right, and what has a rank reaches no end.
use Rattle.std.proofs.Common.{◌≡◌, ◌≢◌, ℕ, zero, suc, ◌+◌, ◌-◌, ◌<◌, ◌≤◌, ◌⊎◌, inl, inr, ⊎_elim, Bool, true, false, cond, ◌&&◌, not, Option, None, Some, List, [], ◌∷◌, ◌++◌, length, get_or, refl, sym, ap, subst, ◌∙◌, arith, set}
use Rattle.std.proofs.lemmas.Bool.{eqb-true, ltb-true, lt-ltb, eq-eqb}
use Rattle.std.proofs.Math.Dec.{eqb, ltb}
use Rattle.std.proofs.lemmas.List.{length_push, get_or_push, get_or_append_left}
use Rattle.std.specs.Option.{is_some}
use Rattle.std.specs.List.{count_by, sum_by}
use Rattle.std.proofs.lemmas.List.Sums.{sum_by-set}
use Rattle.std.proofs.lemmas.Bool.Decides.{eqb_tells}
use Rattle.std.proofs.Math.ListN.{replicate}
use Rattle.cue_scope.specs.Graph.{IsNodeIn, targets, PointsTo, IsReached, start, go_on, Reaches, IsAcyclic, IsOrder}
use Rattle.cue_scope.specs.Inner.Ordering.{first_open, is_ready, IsPlaced}
use Rattle.cue_scope.proofs.Nodes.{in_at, in_index, reaches_inside, first_open_None}

and-parts : (a b : Bool) → (a && b) ≡ true → (a ≡ true) × (b ≡ true)
and-parts true b h = (refl, h)
and-parts false b h = absurd (cc)

not-some : (o : Option ℕ) → not (is_some o) ≡ true → o ≡ None
not-some None h = refl
not-some (Some x) h = absurd (cc)

-- what a ready node is
pub ready_parts : (g : List (List ℕ)) (ranks : List ℕ) (i : ℕ) → is_ready g ranks i ≡ true
    → (i < length ranks) × (get_or ranks i 0 ≡ 0) × ((j : ℕ) → PointsTo g i j → 0 < get_or ranks j 0)
ready_parts g ranks i h =
    let outer = and-parts (ltb i (length ranks) && eqb (get_or ranks i 0) 0) (not (is_some (first_open ranks (targets g i)))) h in
    let inner = and-parts (ltb i (length ranks)) (eqb (get_or ranks i 0) 0) outer.0 in
    (ltb-true i (length ranks) inner.0, eqb-true (get_or ranks i 0) 0 inner.1, first_open_None ranks (targets g i) (not-some (first_open ranks (targets g i)) outer.1))

-- a node without a rank that isn't ready points to one
pub blocked : (g : List (List ℕ)) (ranks : List ℕ) (i : ℕ) → is_ready g ranks i ≡ false → i < length ranks → get_or ranks i 0 ≡ 0 → first_open ranks (targets g i) ≢ None
blocked g ranks i h inside zero_rank none =
    let a : ltb i (length ranks) ≡ true = lt-ltb i (length ranks) inside in
    let b : eqb (get_or ranks i 0) 0 ≡ true = eq-eqb (get_or ranks i 0) 0 zero_rank in
    let all : is_ready g ranks i ≡ true = rw (a, b, none) refl in
    cc

-- a node of the new order is the new one, or one of the old order
pub pushed-at : (order : List ℕ) (node k : ℕ) → k < length (order ++ node ∷ []) → ((k < length order) × (get_or (order ++ node ∷ []) k 0 ≡ get_or order k 0)) ⊎ ((k ≡ length order) × (get_or (order ++ node ∷ []) k 0 ≡ node))
pushed-at [] node zero h = inr (refl, refl)
pushed-at [] node (suc k) h = absurd (omega arith)
pushed-at (x ∷ order) node zero h = inl (omega arith, refl)
pushed-at (x ∷ order) node (suc k) h =
    ⊎_elim (λ l. inl (let less = l.0 in omega arith, l.1)) (λ r. inr (ap suc r.0, r.1)) (pushed-at order node k (omega arith))

-- the rank at a node after a rank was given
set-at : (ranks : List ℕ) (node rank i : ℕ) → node < length ranks → ((i ≡ node) × (get_or (set ranks node rank) i 0 ≡ rank)) ⊎ ((i ≢ node) × (get_or (set ranks node rank) i 0 ≡ get_or ranks i 0))
set-at [] node rank i h = absurd (omega arith)
set-at (x ∷ ranks) zero rank zero h = inl (refl, refl)
set-at (x ∷ ranks) zero rank (suc i) h = inr (λ e. omega arith, refl)
set-at (x ∷ ranks) (suc node) rank zero h = inr (λ e. omega arith, refl)
set-at (x ∷ ranks) (suc node) rank (suc i) h =
    ⊎_elim (λ l. inl (ap suc l.0, l.1)) (λ r. inr (λ e. r.0 (omega arith), r.1)) (set-at ranks node rank i (omega arith))

length-set-at : (ranks : List ℕ) (node rank : ℕ) → length (set ranks node rank) ≡ length ranks
length-set-at [] node rank = refl
length-set-at (x ∷ ranks) zero rank = refl
length-set-at (x ∷ ranks) (suc node) rank = ap suc (length-set-at ranks node rank)

length_zeros : (n z : ℕ) → length (replicate n z) ≡ n
length_zeros zero z = refl
length_zeros (suc n) z = ap suc (length_zeros n z)

abbrev IsZero : ℕ → Type 0
IsZero n = n ≡ 0

zero_at : (n i : ℕ) → IsZero (get_or (replicate {A = ℕ} n 0) i 0)
zero_at zero i = refl
zero_at (suc n) zero = refl
zero_at (suc n) (suc i) = zero_at n i

-- a ready node can be placed
pub placed_add : (g : List (List ℕ)) (order ranks : List ℕ) (node : ℕ) → IsPlaced g order ranks → is_ready g ranks node ≡ true
    → IsPlaced g (order ++ node ∷ []) (set ranks node (length order + 1))
placed_add g order ranks node p ready =
    let parts = ready_parts g ranks node ready in
    let inside : node < length ranks = parts.0 in
    let no_rank : get_or ranks node 0 ≡ 0 = parts.1 in
    let longer : length (order ++ node ∷ []) ≡ length order + 1 = length_push order node in
    let is_new = set-at ranks node (length order + 1) in
    record {
      lengths = length-set-at ranks node (length order + 1) ∙ p.lengths;
      nodes = λ k h. ⊎_elim (λ l. subst (λ z. z < length g) (sym l.1) (p.nodes k l.0)) (λ r. subst (λ z. z < length g) (sym r.1) (subst (λ z. node < z) p.lengths inside)) (pushed-at order node k h);
      ranked = λ k h. ⊎_elim
          (λ l. subst (λ z. get_or (set ranks node (length order + 1)) z 0 ≡ k + 1) (sym l.1)
          (⊎_elim (λ a. let was : get_or ranks (get_or order k 0) 0 ≡ k + 1 = p.ranked k l.0 in let same : get_or ranks (get_or order k 0) 0 ≡ get_or ranks node 0 = ap (λ z. get_or ranks z 0) a.0 in absurd (omega arith))
          (λ b. b.1 ∙ p.ranked k l.0) (is_new (get_or order k 0) inside)))
          (λ r. subst (λ z. get_or (set ranks node (length order + 1)) z 0 ≡ k + 1) (sym r.1)
          (⊎_elim (λ a. a.1 ∙ ap (λ z. z + 1) (sym r.0)) (λ b. absurd (b.0 refl)) (is_new node inside)))
          (pushed-at order node k h);
      listed = λ i h. ⊎_elim
          (λ a. (
            let e : get_or (set ranks node (length order + 1)) i 0 ≡ length order + 1 = a.1 in omega arith,
            subst (λ z. get_or (order ++ node ∷ []) (z - 1) 0 ≡ i) (sym a.1)
                (subst (λ z. get_or (order ++ node ∷ []) z 0 ≡ i) (let e : length order ≡ length order + 1 - 1 = omega arith in e) (get_or_push order node 0 (length order) refl ∙ sym a.0)),
          ))
          (λ b. let was : 0 < get_or ranks i 0 = subst (λ z. 0 < z) b.1 h in let old = p.listed i was in (
            let e : get_or (set ranks node (length order + 1)) i 0 ≡ get_or ranks i 0 = b.1 in let o : get_or ranks i 0 ≤ length order = old.0 in omega arith,
            subst (λ z. get_or (order ++ node ∷ []) (z - 1) 0 ≡ i) (sym b.1)
                (get_or_append_left order (node ∷ []) 0 (get_or ranks i 0 - 1) (let o : get_or ranks i 0 ≤ length order = old.0 in omega arith) ∙ old.1),
          ))
          (is_new i inside);
      after = λ i j points h. ⊎_elim
          (λ a. let rank_j : 0 < get_or ranks j 0 = parts.2 j (subst (λ z. PointsTo g z j) a.0 points) in
          let high : get_or ranks j 0 ≤ length order = (p.listed j rank_j).0 in
          ⊎_elim (λ c. let same : get_or ranks j 0 ≡ get_or ranks node 0 = ap (λ z. get_or ranks z 0) c.0 in absurd (omega arith))
          (λ d. let ej : get_or (set ranks node (length order + 1)) j 0 ≡ get_or ranks j 0 = d.1 in let ei : get_or (set ranks node (length order + 1)) i 0 ≡ length order + 1 = a.1 in (omega arith, omega arith))
          (is_new j inside))
          (λ b. let was : 0 < get_or ranks i 0 = subst (λ z. 0 < z) b.1 h in let old = p.after i j points was in
          let low : 0 < get_or ranks j 0 = old.0 in let less : get_or ranks j 0 < get_or ranks i 0 = old.1 in
          ⊎_elim (λ c. let same : get_or ranks j 0 ≡ get_or ranks node 0 = ap (λ z. get_or ranks z 0) c.0 in absurd (omega arith))
          (λ d. let ej : get_or (set ranks node (length order + 1)) j 0 ≡ get_or ranks j 0 = d.1 in let ei : get_or (set ranks node (length order + 1)) i 0 ≡ get_or ranks i 0 = b.1 in (omega arith, omega arith))
          (is_new j inside))
          (is_new i inside);
    }

-- one rank more leaves one node less without
pub count_ranks : (ranks : List ℕ) (node rank : ℕ) → node < length ranks → get_or ranks node 0 ≡ 0 → 0 < rank
    → count_by (λ r. eqb r 0) (set ranks node rank) + 1 ≡ count_by (λ r. eqb r 0) ranks
count_ranks ranks node rank h off some =
    let changed = sum_by-set (λ r. cond (eqb r 0) 1 0) ranks node rank 0 h in
    let apart : eqb rank 0 ≡ false = ⊎_elim (λ t. let e : rank ≡ 0 = t.1 in absurd (omega arith)) (λ f. f.0) (eqb_tells rank 0) in
    let more : sum_by (λ r. cond (eqb r 0) 1 0) (set ranks node rank) + 1 ≡ sum_by (λ r. cond (eqb r 0) 1 0) ranks + 0 = rw (off, apart) at changed in
    omega arith

-- nothing is placed yet
pub placed_none : (g : List (List ℕ)) (n : ℕ) → n ≡ length g → IsPlaced g [] (replicate {A = ℕ} n 0)
placed_none g n e = record {
  lengths = length_zeros n 0 ∙ e;
  nodes = λ k h. absurd (omega arith);
  ranked = λ k h. absurd (omega arith);
  listed = λ i h. let z : IsZero (get_or (replicate {A = ℕ} n 0) i 0) = zero_at n i in absurd (omega arith);
  after = λ i j points h. let z : IsZero (get_or (replicate {A = ℕ} n 0) i 0) = zero_at n i in absurd (omega arith);
}

-- what is reached from nodes of smaller rank has a smaller rank
reached-ranked : (g : List (List ℕ)) (order ranks from : List ℕ) (top : ℕ) → IsPlaced g order ranks
    → ((j : ℕ) → IsNodeIn j from → (0 < get_or ranks j 0) × (get_or ranks j 0 < top))
    → (j : ℕ) → IsReached g from j → (0 < get_or ranks j 0) × (get_or ranks j 0 < top)
reached-ranked g order ranks from top p first j (start _ h) = first j h
reached-ranked g order ranks from top p first j (go_on i _ r h) =
    let before = reached-ranked g order ranks from top p first i r in
    let step = p.after i j h before.0 in
    let less : get_or ranks j 0 < get_or ranks i 0 = step.1 in
    let below : get_or ranks i 0 < top = before.1 in
    (step.0, omega arith)

-- a node that has a place doesn't reach itself
pub placed_no_cycle : (g : List (List ℕ)) (order ranks : List ℕ) → IsPlaced g order ranks → (i : ℕ) → 0 < get_or ranks i 0 → ¬ Reaches g i i
placed_no_cycle g order ranks p i h r =
    let below = reached-ranked g order ranks (targets g i) (get_or ranks i 0) p (λ j points. p.after i j points h) i r in
    let less : get_or ranks i 0 < get_or ranks i 0 = below.1 in
    omega arith

-- where each node has a place, none reaches itself
pub placed_acyclic : (g : List (List ℕ)) (order ranks : List ℕ) → IsPlaced g order ranks → ((i : ℕ) → i < length ranks → 0 < get_or ranks i 0) → IsAcyclic g
placed_acyclic g order ranks p all i r =
    let inside : i < length ranks = subst (λ z. i < z) (sym p.lengths) (reaches_inside g i i r) in
    placed_no_cycle g order ranks p i (all i inside) r

-- where each node has a place, they are ordered
pub placed_order : (g : List (List ℕ)) (order ranks : List ℕ) → IsPlaced g order ranks → ((i : ℕ) → i < length ranks → 0 < get_or ranks i 0) → IsOrder g order
placed_order g order ranks p all = record {
  nodes = λ i is. let found = in_index order i is in subst (λ z. z < length g) found.2 (p.nodes found.0 found.1);
  all = λ i h.
      let ranked : 0 < get_or ranks i 0 = all i (subst (λ z. i < z) (sym p.lengths) h) in
      let old = p.listed i ranked in
      let high : get_or ranks i 0 ≤ length order = old.0 in
      subst (λ z. IsNodeIn z order) old.1 (in_at order (get_or ranks i 0 - 1) (omega arith));
  after = λ k j h points.
      let rank_k : get_or ranks (get_or order k 0) 0 ≡ k + 1 = p.ranked k h in
      let step = p.after (get_or order k 0) j points (omega arith) in
      let low : 0 < get_or ranks j 0 = step.0 in
      let less : get_or ranks j 0 < get_or ranks (get_or order k 0) 0 = step.1 in
      (get_or ranks j 0 - 1, omega arith, (p.listed j low).1);
  once = λ k m hk hm same.
      let rk : get_or ranks (get_or order k 0) 0 ≡ k + 1 = p.ranked k hk in
      let rm : get_or ranks (get_or order m 0) 0 ≡ m + 1 = p.ranked m hm in
      let e : get_or ranks (get_or order k 0) 0 ≡ get_or ranks (get_or order m 0) 0 = ap (λ z. get_or ranks z 0) same in
      omega arith;
}
