-- A branch that is looked for among the first ones of a list, or behind them.
use Rattle.std.proofs.Common.{◌≡◌, ◌≢◌, ℕ, zero, suc, ◌-◌, ◌<◌, ◌≤◌, ◌+◌, List, [], ◌∷◌, length, take, drop, length-take, get_or, Result, Ok, Err, None, refl, sym, subst, ap, ◌∙◌, arith, ⊎_elim}
use Rattle.std.specs.Result.{MatchResult}
use Rattle.std.specs.declared.cmp.Ordering.TheVariants.{Less}
use Rattle.std.proofs.lemmas.Bool.{cases_lt}
use Rattle.cue_lattice.specs.Path.{Step, step_cmp}
use Rattle.cue_row.specs.Steps.{step_of}
use Rattle.cue_table.specs.Tree.{Children, none, child, find}
use Rattle.cue_table.specs.Form.{IsStepBelowAll}
use Rattle.cue_table.specs.Inner.Form.{StepsRise}
use Rattle.cue_table.specs.Inner.Child.{Child}
use Rattle.cue_table.specs.Inner.Near.{ReachesNear}
use Rattle.cue_table.specs.Inner.Place.{AreBefore, ArePassed, IsPlace, IsGap}
use Rattle.cue_table.specs.Inner.Parts.{branches_past}
use Rattle.cue_table.specs.Inner.View.{branches}
use Rattle.cue_table.proofs.Branches.{below_all, find_below, find_past}
use Rattle.cue_table.proofs.Finding.{find_at, reverse_cmp}
use Rattle.cue_table.proofs.Order.{step_total}

take_whole : {X : Type 0} (n : ℕ) (xs : List X) → n ≡ length xs → take n xs ≡ xs
take_whole zero [] e = refl
take_whole (suc n) [] e = refl
take_whole zero (x ∷ xs) e = absurd (omega arith)
take_whole (suc n) (x ∷ xs) e = ap (λ ys. x ∷ ys) (take_whole n xs (omega arith))

get_take : {X : Type 0} (n at : ℕ) (xs : List X) (d : X) → at < n → get_or (take n xs) at d ≡ get_or xs at d
get_take zero at xs d l = absurd (omega arith)
get_take (suc n) at [] d l = refl
get_take (suc n) zero (x ∷ xs) d l = refl
get_take (suc n) (suc at) (x ∷ xs) d l = get_take n at xs d (omega arith)

-- no branch is at a step between two neighbours
absent_at : {R : Type 0} (step : Step) (k : ℕ) (cs : Children R) → AreBefore k step cs → IsStepBelowAll step (branches_past k cs) → find step cs ≡ None
absent_at step zero cs before after = find_below step cs after
absent_at step (suc k) none before after = absurd before
absent_at step (suc k) (child next tree cs) before after = find_past step next tree cs (reverse_cmp next step Less before.0) ∙ absent_at step k cs before.1 after

module _ {R : Type 0} where
  below_take : (x : Step) (n : ℕ) (cs : List (Child R)) → IsStepBelowAll x (branches cs) → IsStepBelowAll x (branches (take n cs))
  below_take x zero cs h = tt
  below_take x (suc n) [] h = tt
  below_take x (suc n) (c ∷ cs) h = (h.0, below_take x n cs h.1)

  pub rise_take : (n : ℕ) (cs : List (Child R)) → StepsRise (branches cs) → StepsRise (branches (take n cs))
  rise_take zero cs h = tt
  rise_take (suc n) [] h = tt
  rise_take (suc n) (c ∷ cs) h = (below_take (step_of c.step) n cs h.0, rise_take n cs h.1)

  pub rise_drop : (n : ℕ) (cs : List (Child R)) → StepsRise (branches cs) → StepsRise (branches (drop n cs))
  rise_drop zero cs h = h
  rise_drop (suc n) [] h = tt
  rise_drop (suc n) (c ∷ cs) h = rise_drop n cs h.1

  before_take : (step : Step) (k n : ℕ) (cs : List (Child R)) → AreBefore k step (branches (take n cs)) → AreBefore k step (branches cs)
  before_take step zero n cs h = tt
  before_take step (suc k) zero cs h = absurd h
  before_take step (suc k) (suc n) [] h = absurd h
  before_take step (suc k) (suc n) (c ∷ cs) h = (h.0, before_take step k n cs h.1)

  before_at : (step : Step) (k i : ℕ) (cs : List (Child R)) (d : Child R) → AreBefore k step (branches cs) → i < k → step_cmp (step_of (get_or cs i d).step) step ≡ Less
  before_at step zero i cs d h l = absurd (omega arith)
  before_at step (suc k) i [] d h l = absurd h
  before_at step (suc k) zero (c ∷ cs) d h l = h.0
  before_at step (suc k) (suc i) (c ∷ cs) d h l = before_at step k i cs d h.1 (omega arith)

  after_take : (step : Step) (at n : ℕ) (cs : List (Child R)) → at < n → at < length cs → StepsRise (branches cs) → IsStepBelowAll step (branches_past at (branches (take n cs))) → IsStepBelowAll step (branches_past at (branches cs))
  after_take step at zero cs l k a h = absurd (omega arith)
  after_take step at (suc n) [] l k a h = absurd (omega arith)
  after_take step zero (suc n) (c ∷ cs) l k a h = (h.0, below_all step (step_of c.step) (branches cs) h.0 a.0)
  after_take step (suc at) (suc n) (c ∷ cs) l k a h = after_take step at n cs (omega arith) (omega arith) a.1 h

  place_in : (cs : List (Child R)) (step : Step) (n at : ℕ) → StepsRise (branches cs) → IsPlace (take n cs) step at → IsPlace cs step at
  place_in cs step n at a place =
      let bound = place.in_range in
      let cut = length-take n cs in
      let low : at < n = omega (arith, bound, cut) in
      let near : at < length cs = omega (arith, bound, cut) in
      let same : (d : Child R) → step_of (get_or cs at d).step ≡ step = λ d. ap (λ c. step_of c.step) (sym (get_take n at cs d low)) ∙ place.at_step d in
      record {
        in_range = near;
        is_there = λ d. find_at cs step at d a near (sym (same d));
        at_step = same;
        before = before_take step at n cs place.before;
      }

  gap_in : (cs : List (Child R)) (step : Step) (n at : ℕ) (d : Child R) → StepsRise (branches cs) → 0 < n → n < length cs → step_cmp (step_of (get_or cs (n - 1) d).step) step ≢ Less → IsGap (take n cs) step at → IsGap cs step at
  gap_in cs step n at d a pos less stop gap =
      let bound = gap.in_range in
      let cut = length-take n cs in
      let before = before_take step at n cs gap.before in
      let low : at < n = ⊎_elim (λ l. l) (λ l. absurd (stop (before_at step at (n - 1) cs d before (omega (arith, l, pos))))) (cases_lt at n) in
      let after = after_take step at n cs low (omega (arith, low, less)) a gap.after in
      record {
        in_range = omega (arith, low, less);
        absent = absent_at step at (branches cs) before after;
        before = before;
        after = after;
      }

  first : (cs : List (Child R)) (n : ℕ) → n < length cs → Child R
  first [] n l = absurd (omega arith)
  first (c ∷ cs) n l = c

  -- what is found among the first branches is found among all, where these reach the step
  pub near_found :
      (cs : List (Child R)) (step : Step) (n : ℕ) (r : Result ℕ ℕ) → StepsRise (branches cs) → ReachesNear cs step n
      → MatchResult r (IsPlace (take n cs) step) (IsGap (take n cs) step) → MatchResult r (IsPlace cs step) (IsGap cs step)
  near_found cs step n (Ok at) a reaches found = place_in cs step n at a found
  near_found cs step n (Err at) a reaches found =
      ⊎_elim (λ e. subst (λ xs. IsGap xs step at) (take_whole n cs e) found)
      (λ e. gap_in cs step n at (first cs n e.1) a e.0 e.1 (e.2 (first cs n e.1)) found) reaches

  -- what is found behind branches that stand before the step is found among all
  pub place_behind : (n : ℕ) (cs : List (Child R)) (step : Step) (at : ℕ) → AreBefore n step (branches cs) → IsPlace (drop n cs) step at → IsPlace cs step (n + at)
  place_behind zero cs step at b place = let same : at ≡ 0 + at = omega arith in subst (IsPlace cs step) same place
  place_behind (suc n) [] step at b place = absurd b
  place_behind (suc n) (c ∷ cs) step at b found =
      let place = place_behind n cs step at b.1 found in
      let bound = place.in_range in
      let same : suc (n + at) ≡ suc n + at = omega arith in
      subst (IsPlace (c ∷ cs) step) same
      (record {
        in_range = omega (arith, bound);
        is_there = λ d. find_past step (step_of c.step) c.node (branches cs) (reverse_cmp (step_of c.step) step Less b.0) ∙ place.is_there d;
        at_step = place.at_step;
        before = (b.0, place.before);
      })

  pub gap_behind : (n : ℕ) (cs : List (Child R)) (step : Step) (at : ℕ) → AreBefore n step (branches cs) → IsGap (drop n cs) step at → IsGap cs step (n + at)
  gap_behind zero cs step at b gap = let same : at ≡ 0 + at = omega arith in subst (IsGap cs step) same gap
  gap_behind (suc n) [] step at b gap = absurd b
  gap_behind (suc n) (c ∷ cs) step at b found =
      let gap = gap_behind n cs step at b.1 found in
      let bound = gap.in_range in
      let same : suc (n + at) ≡ suc n + at = omega arith in
      subst (IsGap (c ∷ cs) step) same
      (record {
        in_range = omega (arith, bound);
        absent = find_past step (step_of c.step) c.node (branches cs) (reverse_cmp (step_of c.step) step Less b.0) ∙ gap.absent;
        before = (b.0, gap.before);
        after = gap.after;
      })

  -- so many branches are there
  pub before_length : (n : ℕ) (cs : List (Child R)) (step : Step) → AreBefore n step (branches cs) → n ≤ length cs
  before_length zero cs step b = omega arith
  before_length (suc n) [] step b = absurd b
  before_length (suc n) (c ∷ cs) step b = let rest = before_length n cs step b.1 in omega (arith, rest)

  -- what stands up to a branch is before each later step
  pub passed : (cs : List (Child R)) (step : Step) (at : ℕ) → IsPlace cs step at → ArePassed (suc at) step (branches cs)
  passed cs step at place later less = up_to cs at place.before place.in_range place.at_step
    where
      up_to : (cs : List (Child R)) (at : ℕ) → AreBefore at step (branches cs) → at < length cs → ((d : Child R) → step_of (get_or cs at d).step ≡ step) → AreBefore (suc at) later (branches cs)
      up_to [] at b l e = absurd (omega arith)
      up_to (c ∷ cs) zero b l e = (subst (λ s. step_cmp s later ≡ Less) (sym (e c)) less, tt)
      up_to (c ∷ cs) (suc at) b l e = (step_total.trans (step_of c.step) step later b.0 less, up_to cs at b.1 (omega (arith, l)) e)
