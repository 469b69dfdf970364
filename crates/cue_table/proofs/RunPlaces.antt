-- Where elements are among runs of elements that are alike.
use Rattle.std.proofs.Common.{◌≡◌, ◌+◌, ◌<◌, ◌≤◌, nat_lt, Bool, true, false, if◌then◌else◌, ℕ, zero, suc, List, [], ◌∷◌, ◌++◌, length, drop, get_or, Some, None, Result, Ok, Err, refl, sym, ap, subst, ◌∙◌, inl, inr, arith, rules}
use Rattle.std.specs.Result.{MatchResult}
use Rattle.std.proofs.lemmas.Bool.{cases_lt, lt-ltb, le-ltb}
use Rattle.std.specs.Ordering.{ordering_index}
use Rattle.std.specs.declared.cmp.Ordering.{Ordering}
use Rattle.std.specs.declared.cmp.Ordering.TheVariants.{Less, Equal, Greater}
use Rattle.std.specs.List.Sorted.{IsNonDecreasingBy, IsBinarySearchResult, IsSearchInRange}
use Rattle.std.specs.Ordering.{nat_cmp}
use Rattle.cue_lattice.specs.Path.{index}
use Rattle.cue_table.specs.declared.node.ElementRun.{ElementRun}
use Rattle.cue_table.specs.Tree.{Tree, Children, find}
use Rattle.cue_table.specs.Form.{IsStepBelowAll}
use Rattle.cue_table.specs.Inner.Form.{StepsRise}
use Rattle.cue_table.specs.Spans.{alike_elements}
use Rattle.cue_table.specs.Inner.Alike.{AreAlike, IsRun, IsBetween, run_cmp}
use Rattle.cue_table.specs.Inner.Join.{join_children}
use Rattle.cue_table.specs.Inner.View.{last_of, more_of, run_branches}
use Rattle.cue_table.proofs.Branches.{below_all, find_below}
use Rattle.cue_table.proofs.Joined.{alike_find, alike_join, alike_past, alike_rise, below_alike}

number_less : (i n : ℕ) → nat_cmp i n ≡ Less → i < n
number_less i n h = search rules

less_number : (i n : ℕ) → i < n → nat_cmp i n ≡ Less
less_number i n h = search rules

-- how a number compares with the elements from one to another
cmp_less : (first last n : ℕ) → last < n → (if nat_lt last n then Less else if nat_lt n first then Greater else Equal) ≡ Less
cmp_less first last n h = ap (λ b. if b then Less else if nat_lt n first then Greater else Equal) (lt-ltb last n h)

less_cmp : (first last n : ℕ) → (if nat_lt last n then Less else if nat_lt n first then Greater else Equal) ≡ Less → last < n
less_cmp first last n e = elim (cases_lt last n) [
  | inl low ↦ low
  | inr high ↦ let is = ap (λ b. if b then Less else if nat_lt n first then Greater else Equal) (le-ltb last n high) in absurd (no (nat_lt n first) (sym is ∙ e))
]
  where
    no : (b : Bool) → (if b then Greater else Equal) ≡ Less → ⊥
    no true e = cc
    no false e = cc

greater_cmp : (first last n : ℕ) → (if nat_lt last n then Less else if nat_lt n first then Greater else Equal) ≡ Greater → n < first
greater_cmp first last n e = elim (cases_lt last n) [
  | inl low ↦ let is = cmp_less first last n low in absurd (cc)
  | inr high ↦ elim (cases_lt n first) [
    | inl under ↦ under
    | inr above ↦
        let is = ap (λ b. if b then Less else if nat_lt n first then Greater else Equal) (le-ltb last n high) in
        let also = ap (λ b. if b then Greater else Equal) (le-ltb n first above) in absurd (let no : Equal ≡ Greater = sym also ∙ sym is ∙ e in cc)
  ]
]

equal_cmp : (first last n : ℕ) → (if nat_lt last n then Less else if nat_lt n first then Greater else Equal) ≡ Equal → (first ≤ n) × (n ≤ last)
equal_cmp first last n e = elim (cases_lt last n) [
  | inl low ↦ let is = cmp_less first last n low in absurd (cc)
  | inr high ↦ elim (cases_lt n first) [
    | inl under ↦
        let is = ap (λ b. if b then Less else if nat_lt n first then Greater else Equal) (le-ltb last n high) in
        let also = ap (λ b. if b then Greater else Equal) (lt-ltb n first under) in absurd (let no : Greater ≡ Equal = sym also ∙ sym is ∙ e in cc)
    | inr above ↦ (above, high)
  ]
]

rank_order : (number first last i j : ℕ) → last < i → i ≤ j → first ≤ last
    → ordering_index (if nat_lt last number then Less else if nat_lt number first then Greater else Equal)
    ≤ ordering_index (if nat_lt j number then Less else if nat_lt number i then Greater else Equal)
rank_order number first last i j l h k = elim (cases_lt last number) [
  | inl low ↦ rw (cmp_less first last number low) (omega arith)
  | inr high ↦
      let later : (if nat_lt j number then Less else if nat_lt number i then Greater else Equal) ≡ Greater =
      ap (λ b. if b then Less else if nat_lt number i then Greater else Equal) (le-ltb j number (omega (arith, l, h, high)))
      ∙ ap (λ b. if b then Greater else Equal) (lt-ltb number i (omega (arith, l, high))) in
      rw later (most (if nat_lt last number then Less else if nat_lt number first then Greater else Equal))
]
  where
    most : (o : Ordering) → ordering_index o ≤ ordering_index Greater
    most Less = omega arith
    most Equal = omega arith
    most Greater = omega arith

below_more : {R : Type 0} (j i m : ℕ) (tree : Tree R) (others : Children R) → j < i → StepsRise (alike_elements i m tree others) → IsStepBelowAll (index j) (alike_elements i m tree others)
below_more j i zero tree others l a = (less_number j i l, below_all (index j) (index i) others (less_number j i l) a.0)
below_more j i (suc m) tree others l a = (less_number j i l, below_more j (suc i) m tree others (omega (arith, l)) a.1)

module _ {R Q : Type 0} where
  pub runs_join : (rs others : List (ElementRun R Q)) → run_branches (rs ++ others) ≡ join_children (run_branches rs) (run_branches others)
  runs_join [] others = refl
  runs_join (r ∷ rs) others = ap (alike_elements r.first (more_of r.first r.more) r.node) (runs_join rs others) ∙ sym (alike_join r.first (more_of r.first r.more) r.node (run_branches rs) (run_branches others))

  -- an element that stands behind all of a run stands before none that is behind it
  below_first : (n : ℕ) (r : ElementRun R Q) (rs : List (ElementRun R Q)) → IsStepBelowAll (index n) (run_branches (r ∷ rs)) → n < r.first
  below_first n r rs h = number_less n r.first (below_alike (index n) r.first (more_of r.first r.more) r.node (run_branches rs) h).0

  below_each : (n : ℕ) (rs : List (ElementRun R Q)) (k : ℕ) (d : ElementRun R Q) → IsStepBelowAll (index n) (run_branches rs) → k < length rs → n < (get_or rs k d).first
  below_each n [] k d h l = absurd (omega arith)
  below_each n (r ∷ rs) zero d h l = below_first n r rs h
  below_each n (r ∷ rs) (suc k) d h l = below_each n rs k d (below_alike (index n) r.first (more_of r.first r.more) r.node (run_branches rs) h).1 (omega arith)

  ranks : (rs : List (ElementRun R Q)) (number : ℕ) → StepsRise (run_branches rs) → IsNonDecreasingBy (λ r. ordering_index (run_cmp number r)) rs
  ranks [] number a i j d h l = absurd (omega arith)
  ranks (r ∷ rs) number a zero zero d h l = omega arith
  ranks (r ∷ rs) number a zero (suc j) d h l =
      let parts = alike_rise r.first (more_of r.first r.more) r.node (run_branches rs) a in
      let later = get_or rs j d in
      rank_order number r.first (last_of r.first r.more) later.first (last_of later.first later.more) (below_each (last_of r.first r.more) rs j d parts.0 (omega arith)) (omega arith) (omega arith)
  ranks (r ∷ rs) number a (suc i) zero d h l = absurd (omega arith)
  ranks (r ∷ rs) number a (suc i) (suc j) d h l =
      ranks rs number (alike_rise r.first (more_of r.first r.more) r.node (run_branches rs) a).1 i j d (omega arith) (omega arith)

  -- what a binary search among runs answers
  pub run_searched :
      (rs : List (ElementRun R Q)) (number : ℕ) (r : Result ℕ ℕ) → StepsRise (run_branches rs) → IsSearchInRange r (length rs) → IsBinarySearchResult (run_cmp number) rs r
      → MatchResult r (IsRun rs number) (IsBetween rs number)
  run_searched rs number (Ok at) a bound found = record { in_range = bound; here = found }
  run_searched rs number (Err at) a bound found =
      let point = found (ranks rs number a) in
      record { in_range = bound; before = λ k d l. point.0 k d (omega arith) l; behind = λ k d low l. point.1 k d low l }

  -- an element of a run is found
  found_in : (rs : List (ElementRun R Q)) (at j : ℕ) (d : ElementRun R Q) → StepsRise (run_branches rs) → at < length rs → (get_or rs at d).first ≤ j → j ≤ last_of (get_or rs at d).first (get_or rs at d).more
      → find (index j) (run_branches rs) ≡ Some (get_or rs at d).node
  found_in [] at j d a l low high = absurd (omega arith)
  found_in (r ∷ rs) zero j d a l low high = alike_find r.first (more_of r.first r.more) j r.node (run_branches rs) low high
  found_in (r ∷ rs) (suc at) j d a l low high =
      let parts = alike_rise r.first (more_of r.first r.more) r.node (run_branches rs) a in
      let less = below_each (last_of r.first r.more) rs at d parts.0 (omega arith) in
      alike_past r.first (more_of r.first r.more) j r.node (run_branches rs) (omega (arith, less, low)) ∙ found_in rs at j d parts.1 (omega arith) low high

  pub run_found : (rs : List (ElementRun R Q)) (number at : ℕ) (d : ElementRun R Q) → StepsRise (run_branches rs) → IsRun rs number at → find (index number) (run_branches rs) ≡ Some (get_or rs at d).node
  run_found rs number at d a is =
      let within = equal_cmp (get_or rs at d).first (last_of (get_or rs at d).first (get_or rs at d).more) number (is.here d) in
      found_in rs at number d a is.in_range within.0 within.1

  -- runs that end before an element do not have it
  passed : (rs : List (ElementRun R Q)) (at j : ℕ) → at ≤ length rs → ((k : ℕ) (d : ElementRun R Q) → k < at → last_of (get_or rs k d).first (get_or rs k d).more < j) → find (index j) (run_branches rs) ≡ find (index j) (run_branches (drop at rs))
  passed rs zero j l h = refl
  passed [] (suc at) j l h = absurd (omega arith)
  passed (r ∷ rs) (suc at) j l h =
      alike_past r.first (more_of r.first r.more) j r.node (run_branches rs) (h 0 r (omega arith)) ∙ passed rs at j (omega arith) (λ k d less. h (suc k) d (omega arith))

  -- and runs that begin behind it neither
  rise_drop : (rs : List (ElementRun R Q)) (at : ℕ) → StepsRise (run_branches rs) → StepsRise (run_branches (drop at rs))
  rise_drop rs zero a = a
  rise_drop [] (suc at) a = tt
  rise_drop (r ∷ rs) (suc at) a = rise_drop rs at (alike_rise r.first (more_of r.first r.more) r.node (run_branches rs) a).1

  below_runs : (j : ℕ) (rs : List (ElementRun R Q)) → StepsRise (run_branches rs) → ((d : ElementRun R Q) → 0 < length rs → j < (get_or rs 0 d).first) → IsStepBelowAll (index j) (run_branches rs)
  below_runs j [] a h = tt
  below_runs j (r ∷ rs) a h = below_more j r.first (more_of r.first r.more) r.node (run_branches rs) (h r (omega arith)) a

  get_drop : (rs : List (ElementRun R Q)) (at : ℕ) (d : ElementRun R Q) → get_or (drop at rs) 0 d ≡ get_or rs at d
  get_drop rs zero d = refl
  get_drop [] (suc at) d = refl
  get_drop (r ∷ rs) (suc at) d = get_drop rs at d

  len_drop : (rs : List (ElementRun R Q)) (at : ℕ) → 0 < length (drop at rs) → at < length rs
  len_drop rs zero l = l
  len_drop [] (suc at) l = absurd (omega arith)
  len_drop (r ∷ rs) (suc at) l = let less = len_drop rs at l in omega arith

  gap_none : (rs : List (ElementRun R Q)) (number at j : ℕ) → StepsRise (run_branches rs) → IsBetween rs number at → number ≤ j → ((d : ElementRun R Q) → at < length rs → j < (get_or rs at d).first) → find (index j) (run_branches rs) ≡ None
  gap_none rs number at j a is l h =
      passed rs at j is.in_range (λ k d less. let low = less_cmp (get_or rs k d).first (last_of (get_or rs k d).first (get_or rs k d).more) number (is.before k d less) in omega (arith, low, l))
      ∙ find_below (index j) (run_branches (drop at rs))
      (below_runs j (drop at rs) (rise_drop rs at a) (λ d less. subst (λ (r : ElementRun R Q). j < r.first) (sym (get_drop rs at d)) (h d (len_drop rs at less))))

  pub run_missing : (rs : List (ElementRun R Q)) (number at : ℕ) → StepsRise (run_branches rs) → IsBetween rs number at → find (index number) (run_branches rs) ≡ None
  run_missing rs number at a is =
      gap_none rs number at number a is (omega arith) (λ d l. greater_cmp (get_or rs at d).first (last_of (get_or rs at d).first (get_or rs at d).more) number (is.behind at d (omega arith) l))

  -- ---- up to where the elements are alike
  pub alike_run : (rs : List (ElementRun R Q)) (number at : ℕ) (d : ElementRun R Q) → StepsRise (run_branches rs) → IsRun rs number at → AreAlike number (last_of (get_or rs at d).first (get_or rs at d).more + 1) (λ i. find (index i) (run_branches rs))
  alike_run rs number at d a is =
      let within = equal_cmp (get_or rs at d).first (last_of (get_or rs at d).first (get_or rs at d).more) number (is.here d) in
      record {
        behind = omega (arith, within.1);
        same = λ i low high. found_in rs at i d a is.in_range (omega (arith, within.0, low)) (omega (arith, high)) ∙ sym (run_found rs number at d a is);
      }

  pub alike_gap : (rs : List (ElementRun R Q)) (number at to : ℕ) → StepsRise (run_branches rs) → IsBetween rs number at → number < to → ((d : ElementRun R Q) → at < length rs → to ≤ (get_or rs at d).first) → AreAlike number to (λ i. find (index i) (run_branches rs))
  alike_gap rs number at to a is l h = record {
    behind = l;
    same = λ i low high. gap_none rs number at i a is low (λ d less. omega (arith, high, h d less)) ∙ sym (run_missing rs number at a is);
  }

  pub behind_gap : (rs : List (ElementRun R Q)) (number at : ℕ) (d : ElementRun R Q) → IsBetween rs number at → at < length rs → number < (get_or rs at d).first
  behind_gap rs number at d is l = greater_cmp (get_or rs at d).first (last_of (get_or rs at d).first (get_or rs at d).more) number (is.behind at d (omega arith) l)
