-- How often nodes are used does not depend on the order in which those that use them are taken.
use Rattle.std.proofs.Common.{◌≡◌, ◌≢◌, ℕ, suc, ◌+◌, ◌-◌, ◌^◌, ◌<◌, ◌≤◌, min, inl, inr, ⊎_elim, arith, cond, List, [], ◌∷◌, ◌++◌, length, get_or, refl, sym, ap, subst, ◌∙◌}
use Rattle.std.proofs.Math.Dec.{eqb}
use Rattle.std.proofs.Math.ListN.{set, take}
use Rattle.std.proofs.Math.Seq.{take-suc}
use Rattle.std.proofs.lemmas.Bool.Decides.{eqb_tells}
use Rattle.std.proofs.lemmas.List.{get_or-set_same, get_or-set_other}
use Rattle.std.proofs.lemmas.List.Sums.{sum_by-append, sum_by-cons, sum_by_push}
use Rattle.std.specs.List.{sum_by}
use Rattle.cue_scope.specs.Graph.{IsNodeIn, targets}
use Rattle.cue_scope.specs.Reached.{IsReachedOrder, times_in_list, targets_of}
use Rattle.cue_scope.proofs.Nodes.{in_index}

-- a list without the first x in it
abbrev without : ℕ → List ℕ → List ℕ
without x [] = []
without x (y ∷ ys) = cond (eqb x y) ys (y ∷ without x ys)

sum_without : (f : ℕ → ℕ) (x : ℕ) (ys : List ℕ) → IsNodeIn x ys → f x + sum_by f (without x ys) ≡ sum_by f ys
sum_without f x [] h = absurd h
sum_without f x (y ∷ ys) h =
    ⊎_elim
    (λ t. subst (λ b. f x + sum_by f (cond b ys (y ∷ without x ys)) ≡ sum_by f (y ∷ ys)) (sym t.0) (ap (λ z. f z + sum_by f ys) t.1 ∙ sym (sum_by-cons f y ys)))
    (λ n. let rest : IsNodeIn x ys = ⊎_elim (λ e. absurd (n.1 e)) (λ r. r) h in
    let before : f x + sum_by f (without x ys) ≡ sum_by f ys = sum_without f x ys rest in
    let one = sum_by-cons f y (without x ys) in let two = sum_by-cons f y ys in
    let all : f x + sum_by f (y ∷ without x ys) ≡ sum_by f (y ∷ ys) = omega arith in
    subst (λ b. f x + sum_by f (cond b ys (y ∷ without x ys)) ≡ sum_by f (y ∷ ys)) (sym n.0) all)
    (eqb_tells x y)

in_without : (x i : ℕ) (ys : List ℕ) → i ≢ x → IsNodeIn i ys → IsNodeIn i (without x ys)
in_without x i [] off h = h
in_without x i (y ∷ ys) off h =
    ⊎_elim
    (λ t. subst (λ b. IsNodeIn i (cond b ys (y ∷ without x ys))) (sym t.0) (⊎_elim (λ e. absurd (off (e ∙ sym t.1))) (λ r. r) h))
    (λ n. subst (λ b. IsNodeIn i (cond b ys (y ∷ without x ys))) (sym n.0) (⊎_elim (λ e. inl e) (λ r. inr (in_without x i ys off r)) h))
    (eqb_tells x y)

abbrev IsOnce : List ℕ → Type 0
IsOnce xs = (k m : ℕ) → k < length xs → m < length xs → get_or xs k 0 ≡ get_or xs m 0 → k ≡ m

-- the sum over a part is at most that over the whole
sum_within : (f : ℕ → ℕ) (xs ys : List ℕ) → IsOnce xs → ((i : ℕ) → IsNodeIn i xs → IsNodeIn i ys) → sum_by f xs ≤ sum_by f ys
sum_within f [] ys once all = omega arith
sum_within f (x ∷ xs) ys once all =
    let off : (i : ℕ) → IsNodeIn i xs → i ≢ x = λ i there e. let found = in_index xs i there in let same : 0 ≡ suc found.0 = once 0 (suc found.0) (omega arith) (let l = found.1 in omega arith) (sym e ∙ sym found.2) in omega arith in
    let rest : sum_by f xs ≤ sum_by f (without x ys) = sum_within f xs (without x ys)
    (λ k m hk hm e. let same : suc k ≡ suc m = once (suc k) (suc m) (omega arith) (omega arith) e in omega arith)
    (λ i there. in_without x i ys (off i there) (all i (inr there))) in
    let whole : f x + sum_by f (without x ys) ≡ sum_by f ys = sum_without f x ys (all x (inl refl)) in
    let one = sum_by-cons f x xs in
    omega arith

times_of : (g : List (List ℕ)) (i : ℕ) (ks : List ℕ) → times_in_list i (targets_of g ks) ≡ sum_by (λ k. times_in_list i (targets g k)) ks
times_of g i [] = refl
times_of g i (k ∷ ks) =
    let parts : times_in_list i (targets_of g (k ∷ ks)) ≡ times_in_list i (targets g k) + times_in_list i (targets_of g ks) = sum_by-append (λ j. cond (eqb i j) 1 0) (targets g k) (targets_of g ks) in
    parts ∙ ap (λ z. times_in_list i (targets g k) + z) (times_of g i ks) ∙ sym (sum_by-cons (λ k. times_in_list i (targets g k)) k ks)

all_times : (g : List (List ℕ)) (from ks : List ℕ) (i : ℕ) → times_in_list i (from ++ targets_of g ks) ≡ times_in_list i from + sum_by (λ k. times_in_list i (targets g k)) ks
all_times g from ks i = sum_by-append (λ j. cond (eqb i j) 1 0) from (targets_of g ks) ∙ ap (λ z. times_in_list i from + z) (times_of g i ks)

-- in whatever order the nodes that are reached are taken, they point to a node as often
pub same_times : (g : List (List ℕ)) (from a b : List ℕ) (i : ℕ) → IsReachedOrder g from a → IsReachedOrder g from b → times_in_list i (from ++ targets_of g a) ≡ times_in_list i (from ++ targets_of g b)
same_times g from a b i p q =
    let f = λ (k : ℕ). times_in_list i (targets g k) in
    let one : sum_by f a ≤ sum_by f b = sum_within f a b p.once (λ j h. (q.reached j).1 ((p.reached j).0 h)) in
    let two : sum_by f b ≤ sum_by f a = sum_within f b a q.once (λ j h. (p.reached j).1 ((q.reached j).0 h)) in
    let equal : sum_by f a ≡ sum_by f b = omega arith in
    all_times g from a i ∙ ap (λ z. times_in_list i from + z) equal ∙ sym (all_times g from b i)

-- one node more, and what it points to
pub targets_more : (g : List (List ℕ)) (from ks : List ℕ) (i k : ℕ) → k < length ks
    → times_in_list i (from ++ targets_of g (take (suc k) ks)) ≡ times_in_list i (from ++ targets_of g (take k ks)) + times_in_list i (targets g (get_or ks k 0))
targets_more g from ks i k h =
    let f = λ (k : ℕ). times_in_list i (targets g k) in
    let more : sum_by f (take (suc k) ks) ≡ sum_by f (take k ks) + f (get_or ks k 0) = ap (sum_by f) (take-suc ks k 0 h) ∙ sum_by_push f (take k ks) (get_or ks k 0) in
    let one = all_times g from (take (suc k) ks) i in
    let two = all_times g from (take k ks) i in
    omega arith

-- the first of these nodes were counted, up to the greatest number
abbrev pub IsCounting : List ℕ → List ℕ → ℕ → List ℕ → Type 0
IsCounting before js k now = (i : ℕ) → i < length before → get_or now i 0 ≡ min (get_or before i 0 + times_in_list i (take k js)) (2 ^ 64 - 1)

pub counting_more : (before js : List ℕ) (k : ℕ) (now : List ℕ) (more : ℕ) → k < length js → get_or js k 0 < length now
    → more ≡ min (get_or now (get_or js k 0) 0 + 1) (2 ^ 64 - 1) → IsCounting before js k now → IsCounting before js (suc k) (set now (get_or js k 0) more)
counting_more before js k now more h inside is w = λ i below.
    let n = get_or js k 0 in
    let old : get_or now i 0 ≡ min (get_or before i 0 + times_in_list i (take k js)) (2 ^ 64 - 1) = w i below in
    let next : times_in_list i (take (suc k) js) ≡ times_in_list i (take k js) + cond (eqb i n) 1 0 = ap (times_in_list i) (take-suc js k 0 h) ∙ sum_by_push (λ j. cond (eqb i j) 1 0) (take k js) n in
    ⊎_elim
    (λ t. let one : times_in_list i (take (suc k) js) ≡ times_in_list i (take k js) + 1 = next ∙ ap (λ b. times_in_list i (take k js) + cond b 1 0) t.0 in
    let here : get_or (set now n more) i 0 ≡ more = ap (λ z. get_or (set now n more) z 0) t.1 ∙ get_or-set_same now n more 0 inside in
    let was : get_or now i 0 ≡ get_or now n 0 = ap (λ z. get_or now z 0) t.1 in
    omega arith)
    (λ f. let none : times_in_list i (take (suc k) js) ≡ times_in_list i (take k js) + 0 = next ∙ ap (λ b. times_in_list i (take k js) + cond b 1 0) f.0 in
    let here : get_or (set now n more) i 0 ≡ get_or now i 0 = get_or-set_other now n i more 0 f.1 in
    omega arith)
    (eqb_tells i n)
