-- From which index on the elements of a list are alike.
use Rattle.std.proofs.Common.{◌≡◌, ℕ, zero, suc, ◌<◌, ◌≤◌, Some, None, inl, inr, refl, sym, ap, ◌∙◌, arith}
use Rattle.std.specs.declared.cmp.Ordering.TheVariants.{Greater}
use Rattle.std.proofs.lemmas.Bool.{cases_lt}
use Rattle.cue_lattice.specs.Path.{label, index, step_cmp}
use Rattle.cue_table.specs.Tree.{Tree, Children, none, child, Rest, no_rest, onward, find, find_with, rest_at, behind_last, fixed_with}
use Rattle.cue_table.specs.Form.{AreBranches, DiffersFromRest, IsRestOf}
use Rattle.cue_table.proofs.Branches.{find_first, find_rest, find_fixed}
use Rattle.cue_table.proofs.Exact.{none_within, within_last}
use Rattle.cue_table.proofs.Depth.{found_later}

module _ {R : Type 0} where
  -- from the fixed index on each element is the rest
  pub rest_found : (rest : Rest R) (children : Children R) (i : ℕ) → fixed_with rest children ≤ i → find_with rest (index i) children ≡ rest_at rest
  rest_found no_rest children i h = none_within i i children (within_last i children h) (omega arith)
  rest_found (onward n tree) children i h = find_rest n tree children i h

  pub alike_from : (rest : Rest R) (children : Children R) (i j : ℕ) → fixed_with rest children ≤ i → fixed_with rest children ≤ j → find_with rest (index i) children ≡ find_with rest (index j) children
  alike_from rest children i j h k = rest_found rest children i h ∙ sym (rest_found rest children j k)

  -- the last element that stands by itself
  last_own : (P : R → Type 0) (children : Children R) (n : ℕ) → AreBranches P children → behind_last children ≡ suc n → (tree : Tree R) × (find (index n) children ≡ Some tree)
  last_own P none n h e = cc
  last_own P (child (label text) tree children) n h e =
      let own = last_own P children n h.3 e in
      (own.0, found_later (label text) tree children h.0 (index n) own.0 own.1 Greater refl)
  last_own P (child (index i) tree children) n h e = elim (cases_lt i n) [
    | inl low ↦
        let own = last_own P children n h.3 (omega arith) in
        (own.0, found_later (index i) tree children h.0 (index n) own.0 own.1 (step_cmp (index n) (index i)) refl)
    | inr high ↦
        let number : i ≡ n = omega arith in
        (tree, ap (λ m. find (index m) (child (index i) tree children)) (sym number) ∙ find_first (index i) tree children)
  ]

  abbrev AlikeFrom : ℕ → Rest R → Children R → Type 0
  AlikeFrom least rest children = (i j : ℕ) → least ≤ i → least ≤ j → find_with rest (index i) children ≡ find_with rest (index j) children

  not_behind :
      (P : R → Type 0) (children : Children R) (least fixed : ℕ) → AreBranches P children → behind_last children ≡ fixed → AlikeFrom least no_rest children → least < fixed → ⊥
  not_behind P children least zero h e alike l = absurd (omega arith)
  not_behind P children least (suc n) h e alike l =
      let own = last_own P children n h e in
      let far : find (index (suc n)) children ≡ None = none_within (suc n) (suc n) children (within_last (suc n) children (omega arith)) (omega arith) in
      let same : find (index n) children ≡ find (index (suc n)) children = alike n (suc n) (omega arith) (omega arith) in
      let no : Some own.0 ≡ None = sym own.1 ∙ same ∙ far in
      cc

  not_beyond : (n : ℕ) (tree : Tree R) (children : Children R) (least : ℕ) → DiffersFromRest n tree children → AlikeFrom least (onward n tree) children → least < n → ⊥
  not_beyond zero tree children least d alike l = absurd (omega arith)
  not_beyond (suc n) tree children least d alike l =
      d (sym (find_fixed (suc n) tree children n (omega arith)) ∙ alike n (suc n) (omega arith) (omega arith) ∙ find_rest (suc n) tree children (suc n) (omega arith))

  -- where all elements are alike from an index on, they are fixed there
  pub fixed_alike : (P : R → Type 0) (rest : Rest R) (children : Children R) (least : ℕ) → AreBranches P children → IsRestOf P children rest → AlikeFrom least rest children → fixed_with rest children ≤ least
  fixed_alike P no_rest children least h k alike = elim (cases_lt least (behind_last children)) [
    | inl l ↦ absurd (not_behind P children least (behind_last children) h refl alike l)
    | inr l ↦ l
  ]
  fixed_alike P (onward n tree) children least h k alike = elim (cases_lt least n) [
    | inl l ↦ absurd (not_beyond n tree children least k.1 alike l)
    | inr l ↦ l
  ]
