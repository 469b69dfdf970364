-- Members of lists of nodes, and what a graph's nodes point to.
use Rattle.std.proofs.Common.{◌≡◌, ◌≢◌, ℕ, zero, suc, ◌<◌, ◌≤◌, ◌⊎◌, inl, inr, ⊎_elim, cond, Option, None, Some, List, [], ◌∷◌, ◌++◌, length, get_or, refl, sym, ap, subst, Vec, Global, arith, drop}
use Rattle.std.proofs.lemmas.Bool.Decides.{eqb_tells}
use Rattle.std.proofs.Math.Dec.{eqb}
use Rattle.cue_scope.specs.Graph.{IsNodeIn, targets, PointsTo, IsReached, start, go_on, Reaches, IsClosed}
use Rattle.cue_scope.specs.Ordering.{graph_of}
use Rattle.cue_scope.specs.Inner.Ordering.{first_open}

-- the element at an index is in the list
pub in_at : (xs : List ℕ) (k : ℕ) → k < length xs → IsNodeIn (get_or xs k 0) xs
in_at [] k h = absurd (omega arith)
in_at (x ∷ xs) zero h = inl refl
in_at (x ∷ xs) (suc k) h = inr (in_at xs k (omega arith))

-- what is in a list has an index there
pub in_index : (xs : List ℕ) (i : ℕ) → IsNodeIn i xs → (k : ℕ) × (k < length xs) × (get_or xs k 0 ≡ i)
in_index [] i h = absurd h
in_index (x ∷ xs) i h = ⊎_elim (λ e. (0, omega arith, sym e)) (λ r. let found = in_index xs i r in (suc found.0, omega (arith, found.1), found.2)) h

pub in_append_left : (xs ys : List ℕ) (i : ℕ) → IsNodeIn i xs → IsNodeIn i (xs ++ ys)
in_append_left [] ys i h = absurd h
in_append_left (x ∷ xs) ys i h = ⊎_elim (λ e. inl e) (λ r. inr (in_append_left xs ys i r)) h

pub in_append_right : (xs ys : List ℕ) (i : ℕ) → IsNodeIn i ys → IsNodeIn i (xs ++ ys)
in_append_right [] ys i h = h
in_append_right (x ∷ xs) ys i h = inr (in_append_right xs ys i h)

pub in_append : (xs ys : List ℕ) (i : ℕ) → IsNodeIn i (xs ++ ys) → IsNodeIn i xs ⊎ IsNodeIn i ys
in_append [] ys i h = inr h
in_append (x ∷ xs) ys i h = ⊎_elim (λ e. inl (inl e)) (λ r. ⊎_elim (λ a. inl (inr a)) (λ b. inr b) (in_append xs ys i r)) h

-- a node whose targets there are is one of the graph
pub points_inside : (g : List (List ℕ)) (i j : ℕ) → PointsTo g i j → i < length g
points_inside [] i j h = absurd h
points_inside (js ∷ g) zero j h = omega arith
points_inside (js ∷ g) (suc i) j h = let less = points_inside g i j h in omega arith

pub length_graph_of : (g : List (Vec ℕ Global)) → length (graph_of g) ≡ length g
length_graph_of [] = refl
length_graph_of (v ∷ g) = ap suc (length_graph_of g)

pub targets_at : (g : List (Vec ℕ Global)) (i : ℕ) (d : Vec ℕ Global) → i < length g → targets (graph_of g) i ≡ (get_or g i d).items
targets_at [] i d h = absurd (omega arith)
targets_at (v ∷ g) zero d h = refl
targets_at (v ∷ g) (suc i) d h = targets_at g i d (omega arith)

-- nothing is reached from nothing
pub reached_none : (g : List (List ℕ)) (j : ℕ) → IsReached g [] j → ⊥
reached_none g j (start _ h) = h
reached_none g j (go_on i _ r h) = reached_none g i r

-- a node that reaches another is one of the graph
pub reaches_inside : (g : List (List ℕ)) (i j : ℕ) → IsReached g (targets g i) j → i < length g
reaches_inside g i j (start _ h) = points_inside g i j h
reaches_inside g i j (go_on k _ r h) = reaches_inside g i k r

-- a fall along each step is a fall along all of them
pub reached_below : (g : List (List ℕ)) (rank : ℕ → ℕ) (from : List ℕ) (top : ℕ)
    → ((i j : ℕ) → PointsTo g i j → rank j ≤ rank i) → ((j : ℕ) → IsNodeIn j from → rank j < top)
    → (j : ℕ) → IsReached g from j → rank j < top
reached_below g rank from top falls first j (start _ h) = first j h
reached_below g rank from top falls first j (go_on i _ r h) =
    let before : rank i < top = reached_below g rank from top falls first i r in
    let step : rank j ≤ rank i = falls i j h in
    omega arith

first_open_more : (r : ℕ) (j : ℕ) (rest : Option ℕ) (i : ℕ) → cond (eqb r 0) (Some j) rest ≡ Some i → ((j ≡ i) × (r ≡ 0)) ⊎ (rest ≡ Some i)
first_open_more r j rest i h = ⊎_elim (λ t. let e : Some j ≡ Some i = rw t.0 at h in inl (cc, t.1)) (λ f. inr (rw f.0 at h)) (eqb_tells r 0)

-- the first node without a rank is one, and has none
pub first_open_Some : (ranks js : List ℕ) (i : ℕ) → first_open ranks js ≡ Some i → IsNodeIn i js × (get_or ranks i 0 ≡ 0)
first_open_Some ranks [] i h = absurd (cc)
first_open_Some ranks (j ∷ js) i h =
    ⊎_elim (λ e. (inl (sym e.0), subst (λ z. get_or ranks z 0 ≡ 0) e.0 e.1))
    (λ r. let rest = first_open_Some ranks js i r in (inr rest.0, rest.1))
    (first_open_more (get_or ranks j 0) j (first_open ranks js) i h)

first_open_none : (r : ℕ) (j : ℕ) (rest : Option ℕ) → cond (eqb r 0) (Some j) rest ≡ None → (0 < r) × (rest ≡ None)
first_open_none r j rest h = ⊎_elim (λ t. let e : Some j ≡ None = rw t.0 at h in absurd (cc)) (λ f. let apart : r ≢ 0 = f.1 in (omega arith, rw f.0 at h)) (eqb_tells r 0)

-- where none is first, each has a rank
pub first_open_None : (ranks js : List ℕ) → first_open ranks js ≡ None → (j : ℕ) → IsNodeIn j js → 0 < get_or ranks j 0
first_open_None ranks [] h j is = absurd is
first_open_None ranks (k ∷ js) h j is =
    let parts = first_open_none (get_or ranks k 0) k (first_open ranks js) h in
    ⊎_elim (λ e. subst (λ z. 0 < get_or ranks z 0) (sym e) parts.0) (λ r. first_open_None ranks js parts.1 j r) is

-- nothing is left behind the last
pub in_drop_none : (n : ℕ) (xs : List ℕ) (j : ℕ) → length xs ≤ n → IsNodeIn j (drop n xs) → ⊥
in_drop_none zero [] j h is = is
in_drop_none zero (x ∷ xs) j h is = omega arith
in_drop_none (suc n) [] j h is = is
in_drop_none (suc n) (x ∷ xs) j h is = in_drop_none n xs j (omega arith) is

-- a target of a node is a node
pub target_inside : (graph : List (Vec ℕ Global)) (node j : ℕ) (js : List ℕ) → IsClosed (graph_of graph) → js ≡ targets (graph_of graph) node → IsNodeIn j js → j < length graph
target_inside graph node j js closed e is =
    let inside : j < length (graph_of graph) = closed node j (subst (λ z. IsNodeIn j z) e is) in
    let same = length_graph_of graph in
    omega arith

-- where the numbers never rise, and fall at the first step, no way leads back
pub falls_no_cycle : (g : List (List ℕ)) (rank : ℕ → ℕ) → ((i j : ℕ) → PointsTo g i j → rank j ≤ rank i) → (i : ℕ) → ((j : ℕ) → PointsTo g i j → rank j < rank i) → ¬ Reaches g i i
falls_no_cycle g rank falls i first r =
    let less : rank i < rank i = reached_below g rank (targets g i) (rank i) falls first i r in
    omega arith
