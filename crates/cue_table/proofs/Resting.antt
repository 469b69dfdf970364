-- One rest alone at the end of a path, and what it adds to a table.
use Rattle.std.specs.Prelude.{OnOk}
use Rattle.std.proofs.Common.{◌≡◌, ◌↔◌, ◌+◌, ◌≤◌, ◌^◌, ℕ, zero, suc, length, [], ◌∷◌, ◌++◌, Some, None, Result, Ok, Err, refl, sym, subst, inl, inr, ⊎_elim, arith}
use Rattle.std.proofs.lemmas.Bool.{cases_lt}
use Rattle.cue_lattice.specs.Path.{label, index, step_cmp, Path}
use Rattle.cue_table.specs.Tree.{Tree, node, none, child, no_rest, onward, if_not_empty, find_with}
use Rattle.cue_table.specs.Depth.{tree_depth}
use Rattle.cue_table.specs.Refuses.{TableRefuses}
use Rattle.cue_table.specs.Form.{IsTreeTaken, IsTree, DiffersFromRest}
use Rattle.cue_table.specs.Meet.{IsMet, IsRestAdded, RestOfMeetRefuses}
use Rattle.cue_table.specs.Inner.Rests.{tree_along}
use Rattle.cue_table.proofs.Branches.{find_rest, find_fixed, found_refuses}
use Rattle.cue_table.proofs.ByHalves.{free, one_branch}

module _ {R : Type 0} where
  -- a tree with a row is not empty
  pub taken_form : (tree : Tree R) → (if_not_empty tree ≡ None → ⊥) → IsTreeTaken tree
  taken_form (node (Some row) children rest) h = tt
  taken_form (node None none no_rest) h = h refl
  taken_form (node None none (onward n tree)) h = tt
  taken_form (node None (child step tree children) rest) h = tt

  differs_alone : (n : ℕ) (tree : Tree R) → DiffersFromRest n tree none
  differs_alone zero tree = tt
  differs_alone (suc i) tree = λ e. cc

  -- a rest alone is in form
  pub alone_form : (P : R → Type 0) (n : ℕ) (tree : Tree R) → n ≤ 2 ^ 32 → IsTreeTaken tree → IsTree P tree → IsTree P (node None none (onward n tree))
  alone_form P n tree few t h = (tt, tt, (tt, differs_alone n tree, t, h, few))

  -- so is a tree at the end of a path
  pub along_form : (P : R → Type 0) (path : Path) (tree : Tree R) → IsTreeTaken tree → IsTree P tree → IsTreeTaken (tree_along path tree) × IsTree P (tree_along path tree)
  along_form P [] tree t h = (t, h)
  along_form P (step ∷ path) tree t h = let below = along_form P path tree t h in (tt, (tt, (tt, below.0, below.1, tt), tt))

  pub along_depth : (path : Path) (tree : Tree R) → tree_depth (tree_along path tree) ≤ length path + tree_depth tree
  along_depth [] tree = omega arith
  along_depth (step ∷ path) tree = let below = along_depth path tree in omega arith

module _ {R Q : Type 0} (refuses : R → Q → Type 0) where
  abbrev Alone : ℕ → Tree R → Tree R
  Alone n tree = node None none (onward n tree)

  -- what a rest alone refuses at an element
  at_element : (n : ℕ) (tree : Tree R) (i : ℕ) (path : Path) (question : Q) → TableRefuses refuses (Alone n tree) (index i ∷ path) question ↔ RestOfMeetRefuses refuses [] n tree (index i ∷ path) question
  at_element n tree i path question = elim (cases_lt i n) [
    | inl low ↦ (
      λ h. absurd (found_refuses refuses (find_with (onward n tree) (index i) none) None (find_fixed n tree none i low) path question h),
      λ h. let same : index i ∷ path ≡ index h.0 ∷ h.1 = h.2 in let number : i ≡ h.0 = cc in let high = h.3 in absurd (omega (arith, low, number, high)),
    )
    | inr high ↦ (
      λ h. (i, path, refl, high, found_refuses refuses (find_with (onward n tree) (index i) none) (Some tree) (find_rest n tree none i high) path question h),
      λ h. let same : index i ∷ path ≡ index h.0 ∷ h.1 = h.2 in
          let further : path ≡ h.1 = cc in
          found_refuses refuses (Some tree) (find_with (onward n tree) (index i) none) (sym (find_rest n tree none i high)) path question (subst (λ p. TableRefuses refuses tree p question) (sym further) h.4),
    )
  ]

  alone_refuses : (n : ℕ) (tree : Tree R) (at : Path) (question : Q) → TableRefuses refuses (Alone n tree) at question ↔ RestOfMeetRefuses refuses [] n tree at question
  alone_refuses n tree [] question = (λ h. absurd h, λ h. let e : [] ≡ index h.0 ∷ h.1 = h.2 in cc)
  alone_refuses n tree (label text ∷ path) question = (λ h. absurd h, λ h. let e : label text ∷ path ≡ index h.0 ∷ h.1 = h.2 in cc)
  alone_refuses n tree (index i ∷ path) question = at_element n tree i path question

  -- what a rest alone refuses at the end of a path
  pub along_refuses : (list : Path) (n : ℕ) (tree : Tree R) (at : Path) (question : Q) → TableRefuses refuses (tree_along list (Alone n tree)) at question ↔ RestOfMeetRefuses refuses list n tree at question
  along_refuses [] n tree at question = alone_refuses n tree at question
  along_refuses (step ∷ list) n tree [] question = (λ h. absurd h, λ h. let e : [] ≡ step ∷ list ++ index h.0 ∷ h.1 = h.2 in cc)
  along_refuses (step ∷ list) n tree (next ∷ at) question =
      let here = one_branch refuses step (tree_along list (Alone n tree)) next at question (step_cmp next step) refl in
      let below = along_refuses list n tree at question in (
        λ h. let one = here.0 h in
            let rest = below.0 one.1 in
            (rest.0, rest.1, (λ i. sym one.0 i ∷ rest.2 i), rest.3, rest.4),
        λ h. let e : next ∷ at ≡ step ∷ list ++ index h.0 ∷ h.1 = h.2 in
            let same : step ≡ next = cc in
            let further : at ≡ list ++ index h.0 ∷ h.1 = cc in
            here.1 (same, below.1 (h.0, h.1, further, h.3, h.4)),
      )

  -- a table met with one rest alone has it added
  pub rest_added : (old new one : Tree R) (list : Path) (n : ℕ) (tree : Tree R) → one ≡ tree_along list (Alone n tree) → IsMet refuses old one new → IsRestAdded refuses old list n tree new
  rest_added old new one list n tree e met at question =
      let all = subst (λ x. IsMet refuses old x new) e met at question in
      let alone = along_refuses list n tree at question in
      (λ k. ⊎_elim (λ x. inl x) (λ x. inr (alone.0 x)) (all.0 k), λ k. all.1 (⊎_elim (λ x. inl x) (λ x. inr (alone.1 x)) k))

  -- a table without rows adds nothing
  pub nothing_added : (old now : Tree R) (list : Path) (n : ℕ) (tree given : Tree R) → now ≡ old → tree ≡ given → if_not_empty tree ≡ None → IsRestAdded refuses old list n given now
  nothing_added old now list n tree given e f gone = subst (IsRestAdded refuses old list n given) (sym e) (subst (λ t. IsRestAdded refuses old list n t old) f (by tree gone))
    where
      by : (tree : Tree R) → if_not_empty tree ≡ None → IsRestAdded refuses old list n tree old
      by (node (Some row) children rest) g = absurd cc
      by (node None (child step tree children) rest) g = absurd cc
      by (node None none (onward m tree)) g = absurd cc
      by (node None none no_rest) g = λ at question. (λ h. inl h, ⊎_elim (λ h. h) (λ h. absurd (free refuses h.1 question h.4)))

-- the same, where the call succeeds
pub rest_added_ok :
    {R Q A E : Type 0} (refuses : R → Q → Type 0) (r : Result A E) (old new one : Tree R) (list : Path) (n : ℕ) (tree : Tree R) → one ≡ tree_along list (node None none (onward n tree))
    → OnOk r (IsMet refuses old one new) → OnOk r (IsRestAdded refuses old list n tree new)
rest_added_ok refuses (Ok x) old new one list n tree e h = rest_added refuses old new one list n tree e h
rest_added_ok refuses (Err x) old new one list n tree e h = tt
