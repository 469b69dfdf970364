-- The rows of a tree as a list, written down by a walk.
use Rattle.std.proofs.Common.{◌≡◌, ℕ, List, [], ◌∷◌, ◌++◌, append_assoc, map, Some, None, refl, sym, ap, ◌∙◌}
use Rattle.std.proofs.lemmas.List.{append-nil, map-append}
use Rattle.cue_lattice.specs.Path.{Step}
use Rattle.cue_table.specs.Tree.{Tree, node, Children, none, child, no_rest, onward, row_of, below, rest_below, rest_at, fixed_of, children_of}
use Rattle.cue_table.specs.Slots.{Slot, at, from, Place, row_behind, rows_of, rows_below, rows_onward}
use Rattle.cue_table.specs.Inner.Rows.{row_beyond}
use Rattle.cue_table.specs.Inner.Walks.{first_child}

module _ {R : Type 0} where
  -- rows beyond a place and a slot
  beyond_behind : (place : Place) (slot : Slot) (rows : List (Place × R)) → map (row_beyond (place ++ slot ∷ [])) rows ≡ map (row_beyond place) (map (row_behind slot) rows)
  beyond_behind place slot [] = refl
  beyond_behind place slot (row ∷ rows) =
      let one : (place ++ slot ∷ []) ++ row.0 ≡ place ++ (slot ∷ row.0) = append_assoc place (slot ∷ []) row.0 in
      let others = beyond_behind place slot rows in
      λ i. (one i, row.1) ∷ others i

  -- the rows below the place, beyond another one
  abbrev pub left_rows : Place → Children R → Tree R → List (Place × R)
  left_rows place left tree = map (row_beyond place) (rows_below left ++ rows_onward (rest_below tree))

  -- The rows of a branch begin with that of the place itself, where there is one.
  pub rows_begin : (place : Place) (tree : Tree R) (row : R) (old new : List (Place × R)) → row_of tree ≡ Some row → new ≡ old ++ (place, row) ∷ [] → new ++ left_rows place (below tree) tree ≡ old ++ map (row_beyond place) (rows_of tree)
  rows_begin place (node None children rest) row old new e h = cc
  rows_begin place (node (Some here) children rest) row old new e h =
      let same : row ≡ here = cc in
      let left = left_rows place children (node (Some here) children rest) in
      ap (λ rows. rows ++ left) h
      ∙ append_assoc old ((place, row) ∷ []) left
      ∙ (λ i. old ++ (sym (append-nil place) i, same i) ∷ left)

  pub rows_begin_below : (place : Place) (tree : Tree R) (old : List (Place × R)) → row_of tree ≡ None → old ++ left_rows place (below tree) tree ≡ old ++ map (row_beyond place) (rows_of tree)
  rows_begin_below place (node None children rest) old e = refl
  rows_begin_below place (node (Some here) children rest) old e = cc

  -- after the rows of a branch come those that are left
  rows_then :
      (place : Place) (slot : Slot) (tree : Tree R) (left now next all : List (Place × R))
      → next ≡ now ++ map (row_beyond (place ++ slot ∷ [])) (rows_of tree)
      → now ++ map (row_beyond place) (map (row_behind slot) (rows_of tree) ++ left) ≡ all → next ++ map (row_beyond place) left ≡ all
  rows_then place slot tree left now next all h k =
      let written : next ≡ now ++ map (row_beyond place) (map (row_behind slot) (rows_of tree)) = h ∙ ap (λ rows. now ++ rows) (beyond_behind place slot (rows_of tree)) in
      ap (λ rows. rows ++ map (row_beyond place) left) written
      ∙ append_assoc now (map (row_beyond place) (map (row_behind slot) (rows_of tree))) (map (row_beyond place) left)
      ∙ ap (λ rows. now ++ rows) (sym (map-append (row_beyond place) (map (row_behind slot) (rows_of tree)) left))
      ∙ k

  pub rows_more :
      (place : Place) (step : Step) (branch tree : Tree R) (rest left : Children R) (now next all : List (Place × R))
      → children_of rest ≡ (step, branch) ∷ children_of left → next ≡ now ++ map (row_beyond (place ++ at step ∷ [])) (rows_of branch)
      → now ++ left_rows place rest tree ≡ all → next ++ left_rows place left tree ≡ all
  rows_more place step branch tree rest left now next all e h k =
      let parts = first_child rest left step branch e in
      let own = map (row_behind (at step)) (rows_of branch) in
      rows_then place (at step) branch (rows_below left ++ rows_onward (rest_below tree)) now next all h
      (ap (λ rows. now ++ map (row_beyond place) rows) (sym (append_assoc own (rows_below left) (rows_onward (rest_below tree))))
      ∙ ap (λ cs. now ++ left_rows place cs tree) (sym parts) ∙ k)

  pub rows_end : (place : Place) (tree : Tree R) (rest : Children R) (now all : List (Place × R)) → children_of rest ≡ [] → now ++ left_rows place rest tree ≡ all → now ++ map (row_beyond place) (rows_onward (rest_below tree)) ≡ all
  rows_end place tree none now all e h = h
  rows_end place tree (child step branch rest) now all e h = cc

  -- last come those of the rest
  pub rows_last :
      (place : Place) (tree rest : Tree R) (n : ℕ) (now next all : List (Place × R)) → rest_at (rest_below tree) ≡ Some rest → n ≡ fixed_of tree
      → next ≡ now ++ map (row_beyond (place ++ from n ∷ [])) (rows_of rest) → now ++ map (row_beyond place) (rows_onward (rest_below tree)) ≡ all → next ≡ all
  rows_last place (node row children no_rest) rest n now next all e f h k = cc
  rows_last place (node row children (onward m tree)) rest n now next all e f h k =
      let same : tree ≡ rest = cc in
      let number : m ≡ n = sym f in
      sym (append-nil next)
      ∙ rows_then place (from n) rest [] now next all h
      (ap (λ rows. now ++ map (row_beyond place) rows) (append-nil (map (row_behind (from n)) (rows_of rest)))
      ∙ (λ i. now ++ map (row_beyond place) (map (row_behind (from (sym number i))) (rows_of (sym same i)))) ∙ k)

  pub rows_none : (place : Place) (tree : Tree R) (now all : List (Place × R)) → rest_at (rest_below tree) ≡ None → now ++ map (row_beyond place) (rows_onward (rest_below tree)) ≡ all → now ≡ all
  rows_none place (node row children no_rest) now all e h = sym (append-nil now) ∙ h
  rows_none place (node row children (onward n tree)) now all e h = cc
