-- The rows of a tree, counted on a walk over spans.
use Rattle.std.proofs.Common.{◌≡◌, ◌+◌, ◌*◌, ℕ, zero, suc, List, [], ◌∷◌, ◌++◌, map, length, length-append, Option, Some, None, refl, sym, ap, ◌∙◌, arith}
use Rattle.std.proofs.lemmas.List.{length-map}
use Rattle.std.specs.Option.{option_to_list}
use Rattle.cue_table.specs.Slots.{Place, Slot, at, from, row_behind, rows_of, rows_below, rows_onward}
use Rattle.cue_table.specs.Spans.{Span, field, elements, more_in, alike_elements, branches_of_span, branches_of_spans}
use Rattle.cue_table.specs.Tree.{Tree, node, Children, none, child, Rest, no_rest, onward, row_of, below, rest_below, rest_at}
use Rattle.cue_policies.specs.Rows.{row_count}
use Rattle.cue_policies.specs.Inner.Rows.{own_rows, tree_rows, children_rows, rest_rows}

module _ {R : Type 0} where
  -- the row at the root
  abbrev at_root : R → Place × R
  at_root r = ([], r)

  own_counted : (row : Option R) → length (map at_root (option_to_list row)) ≡ own_rows row
  own_counted None = refl
  own_counted (Some row) = refl

  mutual
    pub rows_counted : (tree : Tree R) → row_count tree ≡ tree_rows tree
    rows_counted (node row children rest) =
        let own = own_counted row in
        let branches = children_counted children in
        let onward = rest_counted rest in
        let all = length-append (map at_root (option_to_list row)) (rows_below children ++ rows_onward rest) in
        let both = length-append (rows_below children) (rows_onward rest) in
        omega arith

    children_counted : (children : Children R) → length (rows_below children) ≡ children_rows children
    children_counted none = refl
    children_counted (child step tree children) =
        let first = rows_counted tree in
        let others = children_counted children in
        let moved = length-map (rows_of tree) (row_behind (at step)) in
        let all = length-append (map (row_behind (at step)) (rows_of tree)) (rows_below children) in
        omega arith

    rest_counted : (rest : Rest R) → length (rows_onward rest) ≡ rest_rows rest
    rest_counted no_rest = refl
    rest_counted (onward n tree) = length-map (rows_of tree) (row_behind (from n)) ∙ rows_counted tree

  alike_rows : (i more : ℕ) (tree : Tree R) (others : Children R) → children_rows (alike_elements i more tree others) ≡ tree_rows tree * (more + 1) + children_rows others
  alike_rows i zero tree others = omega arith
  alike_rows i (suc more) tree others = omega (arith, alike_rows (suc i) more tree others)

  spanned_rows : (span : Span) (tree : Tree R) (others : Children R) → children_rows (branches_of_span span tree others) ≡ tree_rows tree * (more_in span + 1) + children_rows others
  spanned_rows (field text) tree others = omega arith
  spanned_rows (elements i more) tree others = alike_rows i more tree others

  -- the rows of the first span and of those behind it
  pub left_rows : (span : Span) (tree : Tree R) (rest left : List (Span × Tree R)) → rest ≡ (span, tree) ∷ left
      → children_rows (branches_of_spans rest) ≡ tree_rows tree * (more_in span + 1) + children_rows (branches_of_spans left)
  left_rows span tree rest left e = ap (λ spans. children_rows (branches_of_spans spans)) e ∙ spanned_rows span tree (branches_of_spans left)

  pub none_left : (rest : List (Span × Tree R)) → rest ≡ [] → children_rows (branches_of_spans rest) ≡ 0
  none_left rest e = ap (λ spans. children_rows (branches_of_spans spans)) e

  pub below_rows : (tree : Tree R) → tree_rows tree ≡ own_rows (row_of tree) + children_rows (below tree) + rest_rows (rest_below tree)
  below_rows (node row children rest) = refl

  pub rest_rows_some : (tree branch : Tree R) → rest_at (rest_below tree) ≡ Some branch → rest_rows (rest_below tree) ≡ tree_rows branch
  rest_rows_some (node row children no_rest) branch e = cc
  rest_rows_some (node row children (onward n tree)) branch e = let same : tree ≡ branch = cc in ap (λ t. tree_rows t) same

  pub rest_rows_none : (tree : Tree R) → rest_at (rest_below tree) ≡ None → rest_rows (rest_below tree) ≡ 0
  rest_rows_none (node row children no_rest) e = refl
  rest_rows_none (node row children (onward n tree)) e = cc
