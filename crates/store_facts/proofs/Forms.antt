-- Which small trees are in the one form of a table. Rows are numbers here, and any row may be kept.
use Rattle.std.proofs.Common.{◌≡◌, ℕ, List, Some, None, refl, arith, lit<, lit≤}
use Rattle.cue_lattice.specs.Path.{label, index}
use Rattle.cue_table.specs.Tree.{Tree, node, Children, none, child, Rest, no_rest, onward, empty}
use Rattle.cue_table.specs.Form.{IsTree, IsTreeTaken, IsRowKept}
use Rattle.store_facts.proofs.Base.{a, b}
use Rattle.store_facts.proofs.Trees.{leaf}

abbrev IsInForm : Tree ℕ → Type 0
IsInForm tree = IsTree (λ row. Unit {0}) tree

abbrev field : List ℕ → ℕ → Children ℕ → Children ℕ
field l row others = child (label l) (leaf row) others

abbrev element : ℕ → ℕ → Children ℕ → Children ℕ
element i row others = child (index i) (leaf row) others

-- with a row at its place
abbrev place : Children ℕ → Rest ℕ → Tree ℕ
place children rest = node (Some 0) children rest

steps_rise : IsInForm (place (field a 1 (field b 1 (element 0 1 (element 4 2 none)))) no_rest)
steps_rise = (tt, ((refl, (refl, (refl, tt))), tt, (tt, tt, tt), ((refl, (refl, tt)), tt, (tt, tt, tt), ((refl, tt), tt, (tt, tt, tt), (tt, tt, (tt, tt, tt), tt)))), tt)

falling_labels_do_not : IsInForm (place (field b 1 (field a 1 none)) no_rest) → ⊥
falling_labels_do_not h = let e = h.1.0.0 in cc

a_label_twice_does_not : IsInForm (place (field a 1 (field a 1 none)) no_rest) → ⊥
a_label_twice_does_not h = let e = h.1.0.0 in cc

an_element_before_a_label_does_not : IsInForm (place (element 0 1 (field a 1 none)) no_rest) → ⊥
an_element_before_a_label_does_not h = let e = h.1.0.0 in cc

an_empty_branch_is_none : IsInForm (place (child (label a) (node None none no_rest) none) no_rest) → ⊥
an_empty_branch_is_none h = h.1.1

an_empty_branch_is_not_taken : IsTreeTaken {R = ℕ} (node None none no_rest) → ⊥
an_empty_branch_is_not_taken h = h

a_branch_with_a_row_below_is_one : IsInForm (place (child (label a) (node None (field b 1 none) no_rest) none) no_rest)
a_branch_with_a_row_below_is_one = (tt, (tt, tt, (tt, (tt, tt, (tt, tt, tt), tt), tt), tt), tt)

what_nothing_is_known_of_is_in_form : IsInForm empty
what_nothing_is_known_of_is_in_form = (tt, tt, tt)

a_rest_from_0 : IsInForm (place none (onward 0 (leaf 5)))
a_rest_from_0 = (tt, tt, (tt, tt, tt, (tt, tt, tt), lit≤ tt))

a_rest_behind_another_element : IsInForm (place (element 0 1 none) (onward 1 (leaf 5)))
a_rest_behind_another_element = (tt, (tt, tt, (tt, tt, tt), tt), ((lit< tt, tt), (λ e. cc), tt, (tt, tt, tt), lit≤ tt))

a_rest_that_could_begin_earlier_is_none : IsInForm (place (element 0 5 none) (onward 1 (leaf 5))) → ⊥
a_rest_that_could_begin_earlier_is_none h = h.2.1 refl

nor_is_one_before_an_element : IsInForm (place (element 3 1 none) (onward 1 (leaf 5))) → ⊥
nor_is_one_before_an_element h = omega (arith, h.2.0.0)

nor_is_an_empty_one : IsInForm (place none (onward 0 empty)) → ⊥
nor_is_an_empty_one h = h.2.2

nor_is_one_behind_all_indexes : IsInForm (place none (onward 4294967297 (leaf 5))) → ⊥
nor_is_one_behind_all_indexes h = omega (arith, h.2.4)

-- a row is kept that refuses something
what_refuses_nothing_is_not_kept : IsRowKept (λ (row question : ℕ). ⊥) (λ row. Unit {0}) 3 → ⊥
what_refuses_nothing_is_not_kept h = h.1 (λ question r. r)

what_refuses_its_own_number_is_kept : IsRowKept (λ (row question : ℕ). row ≡ question) (λ row. Unit {0}) 3
what_refuses_its_own_number_is_kept = (tt, λ none. none 3 refl)
