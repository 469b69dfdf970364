-- The answers of small trees: the row at a path, the rest of a list, and from which index on elements are alike. Rows are numbers here.
use Rattle.std.proofs.Common.{◌≡◌, ℕ, [], ◌∷◌, Some, None, refl}
use Rattle.cue_lattice.specs.Path.{label, index}
use Rattle.cue_table.specs.Tree.{Tree, node, none, child, no_rest, onward, empty, row_at, branch_at, behind_last, fixed_of}
use Rattle.cue_table.specs.Refuses.{TableRefuses}
use Rattle.store_facts.proofs.Base.{a, b, c}

abbrev pub leaf : ℕ → Tree ℕ
leaf row = node (Some row) none no_rest

-- 0 at the root, 1 at a, 2 at b, and below b 3 at the index 0, 4 at 1, and 5 from the index 2 on, with 6 below each of these at c
abbrev tree : Tree ℕ
tree = node (Some 0) (child (label a) (leaf 1) (child (label b) (node (Some 2) (child (index 0) (leaf 3) (child (index 1) (leaf 4) none)) (onward 2 (node (Some 5) (child (label c) (leaf 6) none) no_rest))) none)) no_rest

the_root : row_at tree [] ≡ Some 0
the_root = refl

at_labels : (row_at tree (label a ∷ []) ≡ Some 1) × (row_at tree (label b ∷ []) ≡ Some 2)
at_labels = (refl, refl)

elements_of_their_own : (row_at tree (label b ∷ index 0 ∷ []) ≡ Some 3) × (row_at tree (label b ∷ index 1 ∷ []) ≡ Some 4)
elements_of_their_own = (refl, refl)

elements_of_the_rest : (row_at tree (label b ∷ index 2 ∷ []) ≡ Some 5) × (row_at tree (label b ∷ index 70 ∷ []) ≡ Some 5)
    × (row_at tree (label b ∷ index 9 ∷ label c ∷ []) ≡ Some 6)
elements_of_the_rest = (refl, refl, refl)

where_no_row_stands : (row_at tree (label c ∷ []) ≡ None) × (row_at tree (label a ∷ label a ∷ []) ≡ None)
    × (row_at tree (index 0 ∷ []) ≡ None) × (row_at tree (label b ∷ label c ∷ []) ≡ None)
    × (row_at tree (label b ∷ index 1 ∷ label c ∷ []) ≡ None)
where_no_row_stands = (refl, refl, refl, refl, refl)

-- without a row of its own, and with one below
a_place_without_a_row : (row_at (node None (child (label a) (leaf 1) none) no_rest) [] ≡ None)
    × (row_at (node None (child (label a) (leaf 1) none) no_rest) (label a ∷ []) ≡ Some 1)
a_place_without_a_row = (refl, refl)

the_branch_at_a_path : branch_at tree (label a ∷ []) ≡ Some (leaf 1)
the_branch_at_a_path = refl

-- a rest before which a place is free
elements_before_the_rest : (row_at (node (Some 0) none (onward 1 (leaf 5))) (index 0 ∷ []) ≡ None)
    × (row_at (node (Some 0) none (onward 1 (leaf 5))) (index 1 ∷ []) ≡ Some 5)
elements_before_the_rest = (refl, refl)

from_which_index_on_all_are_alike : (fixed_of (node (Some 2) none (onward 2 (leaf 5))) ≡ 2)
    × (fixed_of (node (Some 2) (child (index 3) (leaf 1) none) no_rest) ≡ 4)
    × (fixed_of (node (Some 2) (child (label a) (leaf 1) none) no_rest) ≡ 0)
    × (behind_last (child (index 0) (leaf 1) (child (index 5) (leaf 1) none)) ≡ 6)
from_which_index_on_all_are_alike = (refl, refl, refl, refl)

nothing_is_known_at_all : (row_at (empty {R = ℕ}) [] ≡ None) × (row_at (empty {R = ℕ}) (label a ∷ []) ≡ None)
nothing_is_known_at_all = (refl, refl)

-- a row refuses its own number and no other
a_table_refuses_what_its_rows_do : TableRefuses (λ (row question : ℕ). row ≡ question) tree (label b ∷ index 5 ∷ []) 5
a_table_refuses_what_its_rows_do = refl

no_other_question : TableRefuses (λ (row question : ℕ). row ≡ question) tree (label a ∷ []) 5 → ⊥
no_other_question h = cc

nothing_without_a_row : TableRefuses (λ (row question : ℕ). row ≡ question) tree (label c ∷ []) 0 → ⊥
nothing_without_a_row h = h
