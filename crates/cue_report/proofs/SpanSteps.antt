-- Where the branches stand that are kept as one.
use Rattle.std.proofs.Common.{◌≡◌, ◌⊎◌, inl, inr, ⊎_elim, ℕ, zero, suc, ◌+◌, ◌≤◌, Option, None, Some, refl, sym, subst, arith}
use Rattle.std.proofs.Math.Nat.{eq-or-lt_of_le}
use Rattle.std.specs.declared.cmp.Ordering.{Ordering}
use Rattle.std.specs.declared.cmp.Ordering.TheVariants.{Less, Equal, Greater}
use Rattle.cue_lattice.specs.Path as paths
use Rattle.cue_lattice.specs.Path.{label, index, step_cmp}
use Rattle.cue_row.specs.declared.parts.RowParts.{RowParts as Row}
use Rattle.cue_row.specs.Row.{RefusesAsked, IsRow}
use Rattle.cue_table.specs.Form.{AreBranches, IsStepBelowAll, IsRowKept}
use Rattle.cue_table.specs.Spans.{Span, field, elements, alike_elements, branches_of_span}
use Rattle.cue_table.specs.Tree.{Tree, Children, none, child, find, if_equal}
use Rattle.cue_report.proofs.Found.{found_first, found_later}
use Rattle.cue_report.proofs.Order.{equal_steps}

-- ---- one branch in front of others
-- what is found behind a branch that is there as well
behind_it : (o : Ordering) (here tree : Tree Row) (a b : Option (Tree Row)) → (a ≡ Some tree → b ≡ Some tree) → if_equal o here a ≡ Some tree → if_equal o here b ≡ Some tree
behind_it Less here tree a b k f = k f
behind_it Equal here tree a b k f = f
behind_it Greater here tree a b k f = k f

either : (o : Ordering) (here tree : Tree Row) (a b : Option (Tree Row)) (P : Type 0) → (a ≡ Some tree → (b ≡ Some tree) ⊎ P) → if_equal o here a ≡ Some tree → (if_equal o here b ≡ Some tree) ⊎ P
either Less here tree a b P k f = k f
either Equal here tree a b P k f = inl f
either Greater here tree a b P k f = k f

either_way : (o : Ordering) (here : Tree Row) (a : Option (Tree Row)) → a ≡ Some here → if_equal o here a ≡ Some here
either_way Less here a k = k
either_way Equal here a k = refl
either_way Greater here a k = k

no_branch : (tree : Tree Row) (b : Option (Tree Row)) → None ≡ Some tree → b ≡ Some tree
no_branch tree b e = cc

-- a branch is the first one or one behind it
first_or : (s step : paths.Step) (here tree : Tree Row) (others : Children Row) (P : Type 0) → (s ≡ step → tree ≡ here → P) → (find s others ≡ Some tree → P) → find s (child step here others) ≡ Some tree → P
first_or s step here tree others P first later f = cases (step_cmp s step) refl f
  where
    cases : (o : Ordering) → step_cmp s step ≡ o → if_equal o here (find s others) ≡ Some tree → P
    cases Less e g = later g
    cases Equal e g = let same : here ≡ tree = cc in first (equal_steps s step e) (sym same)
    cases Greater e g = later g

-- ---- elements that are alike
alike_own : (s : paths.Step) (i more : ℕ) (here tree : Tree Row) (others : Children Row) → find s (alike_elements i more here none) ≡ Some tree → find s (alike_elements i more here others) ≡ Some tree
alike_own s i zero here tree others f = behind_it (step_cmp s (index i)) here tree None (find s others) (no_branch tree (find s others)) f
alike_own s i (suc more) here tree others f =
    behind_it (step_cmp s (index i)) here tree (find s (alike_elements (suc i) more here none)) (find s (alike_elements (suc i) more here others)) (alike_own s (suc i) more here tree others) f

alike_either : (s : paths.Step) (i more : ℕ) (here tree : Tree Row) (others : Children Row) → find s (alike_elements i more here others) ≡ Some tree → (find s (alike_elements i more here none) ≡ Some tree) ⊎ (find s others ≡ Some tree)
alike_either s i zero here tree others f = either (step_cmp s (index i)) here tree (find s others) None (find s others ≡ Some tree) (λ g. inr g) f
alike_either s i (suc more) here tree others f =
    either (step_cmp s (index i)) here tree (find s (alike_elements (suc i) more here others)) (find s (alike_elements (suc i) more here none)) (find s others ≡ Some tree) (alike_either s (suc i) more here tree others) f

alike_later :
    (s : paths.Step) (i more : ℕ) (here tree : Tree Row) (others : Children Row) → AreBranches (IsRowKept RefusesAsked IsRow) (alike_elements i more here others)
    → find s others ≡ Some tree → find s (alike_elements i more here others) ≡ Some tree
alike_later s i zero here tree others h f = found_later (index i) s here tree others h.0 f
alike_later s i (suc more) here tree others h f = found_later (index i) s here tree (alike_elements (suc i) more here others) h.0 (alike_later s (suc i) more here tree others h.3 f)

alike_rise : (i more : ℕ) (here : Tree Row) (others : Children Row) → AreBranches (IsRowKept RefusesAsked IsRow) (alike_elements i more here others) → AreBranches (IsRowKept RefusesAsked IsRow) others
alike_rise i zero here others h = h.3
alike_rise i (suc more) here others h = alike_rise (suc i) more here others h.3

alike_below : (s : paths.Step) (i more : ℕ) (here : Tree Row) (others : Children Row) → IsStepBelowAll s (alike_elements i more here others) → IsStepBelowAll s others
alike_below s i zero here others h = h.1
alike_below s i (suc more) here others h = alike_below s (suc i) more here others h.1

-- the last element is before what stands behind them
pub last_below : (i more : ℕ) (here : Tree Row) (others : Children Row) → AreBranches (IsRowKept RefusesAsked IsRow) (alike_elements i more here others) → IsStepBelowAll (index (i + more)) others
last_below i zero here others h = let same : i ≡ i + 0 = omega arith in subst (λ n. IsStepBelowAll (index n) others) same h.0
last_below i (suc more) here others h = let same : suc i + more ≡ i + suc more = omega arith in subst (λ n. IsStepBelowAll (index n) others) same (last_below (suc i) more here others h.3)

-- each of their indexes has the one branch
pub alike_at : (i more n : ℕ) (here : Tree Row) (others : Children Row) → i ≤ n → n ≤ i + more → find (index n) (alike_elements i more here others) ≡ Some here
alike_at i zero n here others l m = let same : i ≡ n = omega arith in subst (λ k. find (index k) (child (index i) here others) ≡ Some here) same (found_first (index i) here others)
alike_at i (suc more) n here others l m = ⊎_elim
    (λ e. subst (λ k. find (index k) (alike_elements i (suc more) here others) ≡ Some here) e (found_first (index i) here (alike_elements (suc i) more here others)))
    (λ low. either_way (step_cmp (index n) (index i)) here (find (index n) (alike_elements (suc i) more here others)) (alike_at (suc i) more n here others low (omega arith)))
    (eq-or-lt_of_le {n = i} {m = n} l)

-- and nothing else stands there
pub record IsElement (i more : ℕ) (here : Tree Row) (s : paths.Step) (tree : Tree Row) : Type 0 where
  pub number : ℕ
  pub is : s ≡ index number
  pub least : i ≤ number
  pub most : number ≤ i + more
  pub same : tree ≡ here

pub alike_is : (s : paths.Step) (i more : ℕ) (here tree : Tree Row) → find s (alike_elements i more here none) ≡ Some tree → IsElement i more here s tree
alike_is s i zero here tree f =
    first_or s (index i) here tree none (IsElement i zero here s tree) (λ e t. record { number = i; is = e; least = omega arith; most = omega arith; same = t })
    (λ g. absurd (let no : ⊥ = cc in no)) f
alike_is s i (suc more) here tree f =
    first_or s (index i) here tree (alike_elements (suc i) more here none) (IsElement i (suc more) here s tree) (λ e t. record { number = i; is = e; least = omega arith; most = omega arith; same = t })
    (λ g. let k = alike_is s (suc i) more here tree g in record { number = k.number; is = k.is; least = omega (arith, k.least); most = omega (arith, k.most); same = k.same }) f

-- ---- the branches of a span
-- one of them stands there with others behind
pub span_own : (s : paths.Step) (span : Span) (here tree : Tree Row) (others : Children Row) → find s (branches_of_span span here none) ≡ Some tree → find s (branches_of_span span here others) ≡ Some tree
span_own s (field text) here tree others f = behind_it (step_cmp s (label text)) here tree None (find s others) (no_branch tree (find s others)) f
span_own s (elements i more) here tree others f = alike_own s i more here tree others f

-- a branch is one of them, or one of the others
pub span_either : (s : paths.Step) (span : Span) (here tree : Tree Row) (others : Children Row) → find s (branches_of_span span here others) ≡ Some tree → (find s (branches_of_span span here none) ≡ Some tree) ⊎ (find s others ≡ Some tree)
span_either s (field text) here tree others f = either (step_cmp s (label text)) here tree (find s others) None (find s others ≡ Some tree) (λ g. inr g) f
span_either s (elements i more) here tree others f = alike_either s i more here tree others f

pub span_later :
    (s : paths.Step) (span : Span) (here tree : Tree Row) (others : Children Row) → AreBranches (IsRowKept RefusesAsked IsRow) (branches_of_span span here others)
    → find s others ≡ Some tree → find s (branches_of_span span here others) ≡ Some tree
span_later s (field text) here tree others h f = found_later (label text) s here tree others h.0 f
span_later s (elements i more) here tree others h f = alike_later s i more here tree others h f

pub span_rise : (span : Span) (here : Tree Row) (others : Children Row) → AreBranches (IsRowKept RefusesAsked IsRow) (branches_of_span span here others) → AreBranches (IsRowKept RefusesAsked IsRow) others
span_rise (field text) here others h = h.3
span_rise (elements i more) here others h = alike_rise i more here others h

pub span_below : (s : paths.Step) (span : Span) (here : Tree Row) (others : Children Row) → IsStepBelowAll s (branches_of_span span here others) → IsStepBelowAll s others
span_below s (field text) here others h = h.1
span_below s (elements i more) here others h = alike_below s i more here others h

-- the one branch at a step
pub only_branch : (s step : paths.Step) (here tree : Tree Row) → find s (child step here none) ≡ Some tree → (s ≡ step) × (tree ≡ here)
only_branch s step here tree f = first_or s step here tree none ((s ≡ step) × (tree ≡ here)) (λ e t. (e, t)) (λ g. absurd (let no : ⊥ = cc in no)) f
