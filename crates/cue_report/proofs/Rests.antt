-- What stands one step into a tree: a branch at a step of its own, or the rest of a list.
use Rattle.std.proofs.Common.{◌≡◌, ◌⊎◌, inl, inr, ⊎_elim, ℕ, ◌<◌, ◌≤◌, min, List, Some, refl, sym, ap, subst, ◌∙◌, arith}
use Rattle.std.proofs.lemmas.Bool.{cases_lt}
use Rattle.cue_lattice.specs.Path as paths
use Rattle.cue_lattice.specs.Path.{label, index, step_cmp}
use Rattle.std.specs.declared.cmp.Ordering.{Ordering}
use Rattle.std.specs.declared.cmp.Ordering.TheVariants.{Less, Equal, Greater}
use Rattle.cue_row.specs.declared.parts.RowParts.{RowParts as Row}
use Rattle.cue_row.specs.Row.{RefusesAsked, IsRow}
use Rattle.cue_table.specs.Form.{AreBranches, AreWithinDepth, IsRowKept, IsRestOf, IsTable}
use Rattle.cue_table.specs.Tree.{Tree, node, Children, none, child, Rest, no_rest, onward, below, rest_below, if_equal, find, find_with, step_into}
use Rattle.cue_report.specs.Inner.Search.{rest_from}
use Rattle.cue_report.proofs.Order.{equal_steps}
use Rattle.cue_table.proofs.Branches.{find_own, find_rest, find_fixed}
use Rattle.cue_table.proofs.Finding.{found_form}

-- what stands at a step of its own is what stands there
pub own : (tree inner : Tree Row) (step : paths.Step) → IsTable RefusesAsked IsRow tree → find step (below tree) ≡ Some inner → step_into tree step ≡ Some inner
own (node row children rest) inner step h f = find_own (IsRowKept RefusesAsked IsRow) rest step inner children h.2 f

-- at a label nothing else stands
pub at_label : (tree : Tree Row) (text : List ℕ) → step_into tree (label text) ≡ find (label text) (below tree)
at_label (node row children no_rest) text = refl
at_label (node row children (onward n tree)) text = refl

-- an index before the rest
abbrev pub IsBefore : ℕ → Rest Row → Type 0
IsBefore i no_rest = Unit {0}
IsBefore i (onward n tree) = i < n

pub at_fixed : (tree : Tree Row) (i : ℕ) → IsBefore i (rest_below tree) → step_into tree (index i) ≡ find (index i) (below tree)
at_fixed (node row children no_rest) i h = refl
at_fixed (node row children (onward n tree)) i h = find_fixed n tree children i h

-- from its index on the rest stands
pub at_rest : (tree inner : Tree Row) (n i : ℕ) → rest_below tree ≡ onward n inner → n ≤ i → step_into tree (index i) ≡ Some inner
at_rest (node row children rest) inner n i e l = ap (λ r. find_with r (index i) children) e ∙ find_rest n inner children i l

-- an index is before the rest, or the rest stands there
abbrev pub IsRestAt : Tree Row → ℕ → Type 0
IsRestAt tree i = (n : ℕ) × (inner : Tree Row) × (rest_below tree ≡ onward n inner) × (n ≤ i)

pub before_or_rest : (tree : Tree Row) (i : ℕ) → IsBefore i (rest_below tree) ⊎ IsRestAt tree i
before_or_rest (node row children no_rest) i = inl tt
before_or_rest (node row children (onward n tree)) i = elim (cases_lt i n) [
  | inl h ↦ inl h
  | inr h ↦ inr (n, tree, refl, h)
]

-- so an element is one of its own, or the rest
pub element_cases :
    (tree inner : Tree Row) (i : ℕ) → step_into tree (index i) ≡ Some inner
    → (find (index i) (below tree) ≡ Some inner) ⊎ ((n : ℕ) × (rest_below tree ≡ onward n inner) × (n ≤ i))
element_cases tree inner i f = ⊎_elim
    (λ h. inl (sym (at_fixed tree i h) ∙ f))
    (λ (n, other, e, l). let same : Some other ≡ Some inner = sym (at_rest tree other n i e l) ∙ f in
    let is : other ≡ inner = cc in inr (n, e ∙ ap (onward n) is, l))
    (before_or_rest tree i)

-- so what stands one step into a tree does, whatever the step
pub into_cases :
    (tree inner : Tree Row) (step : paths.Step) (P : Type 0) → step_into tree step ≡ Some inner → (find step (below tree) ≡ Some inner → P)
    → ((n i : ℕ) → step ≡ index i → rest_below tree ≡ onward n inner → n ≤ i → P) → P
into_cases tree inner (label text) P f here further = here (sym (at_label tree text) ∙ f)
into_cases tree inner (index i) P f here further = ⊎_elim here (λ (n, e, l). further n i refl e l) (element_cases tree inner i f)

-- an element that stands by itself is before the rest
own_below : (n i : ℕ) (inner : Tree Row) (children : Children Row) → AreWithinDepth n children → find (index i) children ≡ Some inner → i < n
own_below n i inner none h e = cc
own_below n i inner (child (label text) here children) h e = own_below n i inner children h e
own_below n i inner (child (index j) here children) h e = by (step_cmp (index i) (index j)) refl e (λ f. own_below n i inner children h.1 f)
  where
    by : (o : Ordering) → step_cmp (index i) (index j) ≡ o → if_equal o here (find (index i) children) ≡ Some inner → (find (index i) children ≡ Some inner → i < n) → i < n
    by Less f e k = k e
    by Greater f e k = k e
    by Equal f e k = let same : index i ≡ index j = equal_steps (index i) (index j) f in let number : i ≡ j = cc in subst (λ m. m < n) (sym number) h.0

pub own_before : (tree inner : Tree Row) (i : ℕ) → IsTable RefusesAsked IsRow tree → find (index i) (below tree) ≡ Some inner → IsBefore i (rest_below tree)
own_before (node row children no_rest) inner i h f = tt
own_before (node row children (onward n tree)) inner i h f = own_below n i inner children h.2.0 f

pub before_lower : (rest : Rest Row) (i j : ℕ) → i ≤ j → IsBefore j rest → IsBefore i rest
before_lower no_rest i j l h = tt
before_lower (onward n tree) i j l h = let high : j < n = h in let low : i < n = omega arith in low

-- an element that each list has is before the rest, or at or behind where this begins
pub before_end : (rest : Rest Row) (least i : ℕ) → i < rest_from rest least → (i < least) × IsBefore i rest
before_end no_rest least i h = (h, tt)
before_end (onward n tree) least i h = let low : i < min n least = h in (omega arith, (let own : i < n = omega arith in own))

pub up_to_end : (rest : Rest Row) (least i : ℕ) → i < least → IsBefore i rest → i < rest_from rest least
up_to_end no_rest least i l h = l
up_to_end (onward n tree) least i l h = let low : i < n = h in let both : i < min n least = omega arith in both

-- what stands one step into a table is a table
pub form_into : (tree inner : Tree Row) (step : paths.Step) → IsTable RefusesAsked IsRow tree → step_into tree step ≡ Some inner → IsTable RefusesAsked IsRow inner
form_into tree inner step h f = (found_form (IsRowKept RefusesAsked IsRow) step tree inner h f).1

pub branches : (tree : Tree Row) → IsTable RefusesAsked IsRow tree → AreBranches (IsRowKept RefusesAsked IsRow) (below tree)
branches (node row children rest) h = h.1

pub rest_form : (tree : Tree Row) → IsTable RefusesAsked IsRow tree → IsRestOf (IsRowKept RefusesAsked IsRow) (below tree) (rest_below tree)
rest_form (node row children rest) h = h.2
