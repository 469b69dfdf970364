-- Branches of lists and of places, found at steps, and that each refuses something.
use Rattle.std.proofs.Common.{◌≡◌, ◌↔◌, ◌≤◌, ◌<◌, ℕ, if◌then◌else◌, Option, Some, None, ◌∷◌, [], refl, sym, ap, subst, ◌∙◌, arith}
use Rattle.std.specs.Option.{option_and_then}
use Rattle.std.specs.declared.cmp.Ordering.TheVariants.{Less, Equal, Greater}
use Rattle.cue_lattice.specs.Path.{Step, label, index, step_cmp, Path}
use Rattle.cue_table.specs.Tree.{Tree, node, Children, none, child, Rest, no_rest, onward, row_of, if_equal, find, find_with, branch_at}
use Rattle.cue_table.specs.Refuses.{RowRefuses, TableRefuses}
use Rattle.cue_table.specs.Form.{IsStepBelowAll, IsTreeTaken, IsTree, IsRowKept, AreWithinDepth, IsRestOf}
use Rattle.cue_table.proofs.Order.{step_total, equal_steps}
use Rattle.std.proofs.lemmas.Bool.{lt-ltb, le-ltb}
use Rattle.std.specs.declared.cmp.Ordering.{Ordering}
use Rattle.cue_table.proofs.Finding.{same_step}

module _ {R : Type 0} where
  -- the first branch is found at its step
  pub find_first : (step : Step) (tree : Tree R) (children : Children R) → find step (child step tree children) ≡ Some tree
  find_first step tree children = ap (λ o. if_equal o tree (find step children)) (same_step step)

  -- before a greater step nothing is found
  pub find_before : (step next : Step) (tree : Tree R) (children : Children R) → step_cmp step next ≡ Less → find step (child next tree children) ≡ find step children
  find_before step next tree children h = ap (λ o. if_equal o tree (find step children)) h

  -- past a smaller step the search goes on
  pub find_past : (step next : Step) (tree : Tree R) (children : Children R) → step_cmp step next ≡ Greater → find step (child next tree children) ≡ find step children
  find_past step next tree children h = ap (λ o. if_equal o tree (find step children)) h

  -- a step before all is that of none
  pub find_below : (step : Step) (children : Children R) → IsStepBelowAll step children → find step children ≡ None
  find_below step none h = refl
  find_below step (child next tree children) h = find_before step next tree children h.0 ∙ find_below step children h.1

  -- what is below a step is below all that are above it
  pub below_all : (a b : Step) (children : Children R) → step_cmp a b ≡ Less → IsStepBelowAll b children → IsStepBelowAll a children
  below_all a b none h k = tt
  below_all a b (child next tree children) h k = (step_total.trans a b next h k.0, below_all a b children h k.1)

  -- an element that stands by itself is before the rest
  pub own_below : (n i : ℕ) (tree : Tree R) (children : Children R) → AreWithinDepth n children → find (index i) children ≡ Some tree → i < n
  own_below n i tree none h e = cc
  own_below n i tree (child (label text) here children) h e = own_below n i tree children h e
  own_below n i tree (child (index j) here children) h e = by (step_cmp (index i) (index j)) refl (λ f. own_below n i tree children h.1 f)
    where
      by : (o : Ordering) → step_cmp (index i) (index j) ≡ o → (find (index i) children ≡ Some tree → i < n) → i < n
      by Less f k = k (sym (ap (λ o. if_equal o here (find (index i) children)) f) ∙ e)
      by Greater f k = k (sym (ap (λ o. if_equal o here (find (index i) children)) f) ∙ e)
      by Equal f k = let same : index i ≡ index j = equal_steps (index i) (index j) f in let number : i ≡ j = cc in subst (λ m. m < n) (sym number) h.0

  -- from its index on the rest is found
  pub find_rest : (n : ℕ) (tree : Tree R) (children : Children R) (i : ℕ) → n ≤ i → find_with (onward n tree) (index i) children ≡ Some tree
  find_rest n tree children i h = ap (λ b. if b then find (index i) children else Some tree) (le-ltb i n h)

  -- and before it what stands there by itself
  pub find_fixed : (n : ℕ) (tree : Tree R) (children : Children R) (i : ℕ) → i < n → find_with (onward n tree) (index i) children ≡ find (index i) children
  find_fixed n tree children i h = ap (λ b. if b then find (index i) children else Some tree) (lt-ltb i n h)

  -- what stands at a step by itself is found there
  pub find_own : (P : R → Type 0) (rest : Rest R) (step : Step) (tree : Tree R) (children : Children R) → IsRestOf P children rest → find step children ≡ Some tree → find_with rest step children ≡ Some tree
  find_own P no_rest step tree children h e = e
  find_own P (onward n other) (label text) tree children h e = e
  find_own P (onward n other) (index i) tree children h e = find_fixed n other children i (own_below n i tree children h.0 e) ∙ e

module _ {R Q : Type 0} (refuses : R → Q → Type 0) where
  -- what is refused at a path from a branch that may be there
  abbrev pub FoundRefuses : Option (Tree R) → Path → Q → Type 0
  FoundRefuses found path = RowRefuses refuses (option_and_then row_of (option_and_then (λ branch. branch_at branch path) found))

  -- the same branches refuse the same
  pub found_refuses : (a b : Option (Tree R)) → a ≡ b → (path : Path) (question : Q) → FoundRefuses a path question → FoundRefuses b path question
  found_refuses a b e path question = subst (λ found. FoundRefuses found path question) e

  -- the same answers below a place
  abbrev SameBelow : Children R → Children R → Type 0
  SameBelow cs ds = (step : Step) (path : Path) (question : Q) → FoundRefuses (find step cs) path question ↔ FoundRefuses (find step ds) path question

  module _ (is_value : R → Type 0) where
    abbrev Kept : R → Type 0
    Kept = IsRowKept refuses is_value

    -- a tree with rows refuses something
    pub not_silent : (tree : Tree R) → IsTreeTaken tree → IsTree Kept tree → ((path : Path) (question : Q) → ¬ TableRefuses refuses tree path question) → ⊥
    not_silent (node (Some row) cs rest) t h silent = h.0.1 (λ question. silent [] question)
    not_silent (node None none no_rest) t h silent = t
    not_silent (node None none (onward n tree)) t h silent =
        not_silent tree h.2.2 h.2.3
        (λ path question k. silent (index n ∷ path) question (found_refuses (Some tree) (find_with (onward n tree) (index n) none) (sym (find_rest n tree none n (omega arith))) path question k))
    not_silent (node None (child step tree cs) rest) t h silent =
        not_silent tree h.1.1 h.1.2
        (λ path question k. silent (step ∷ path) question (found_refuses (Some tree) (find_with rest step (child step tree cs)) (sym (find_own Kept rest step tree (child step tree cs) h.2 (find_first step tree cs))) path question k))
