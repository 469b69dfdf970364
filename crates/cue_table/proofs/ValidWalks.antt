-- The steps of the walk that tells valid tables, and the table with no row.
use Rattle.std.specs.Option.{is_some}
use Rattle.std.proofs.Common.{◌≡◌, ◌↔◌, false, ◌<◌, ◌≤◌, [], ◌∷◌, Option, Some, None, refl, sym, ap, subst, inl, ⊎_elim, arith}
use Rattle.cue_lattice.specs.Path.{index, Path}
use Rattle.cue_row.specs.ValidRow.{IsValidRow}
use Rattle.cue_row.specs.declared.parts.RowParts.{RowParts as Row}
use Rattle.cue_table.specs.Tree.{Tree, node, Children, none, child, Rest, no_rest, onward, row_of, below, rest_below, rest_at, fixed_of, empty, row_at, children_of}
use Rattle.cue_table.specs.Size.{tree_size, children_size}
use Rattle.cue_table.specs.Valid.{path_below, IsOpenStruct, IsValidTable}
use Rattle.cue_table.specs.Inner.ValidWalk.{HasElement, IsSound, AreSound, IsRestSound}

-- a table with no row at its root is valid just where it is empty
pub valid_empty : (tree : Tree Row) → row_of tree ≡ None → IsValidTable tree → tree ≡ empty
valid_empty tree e h =
    ⊎_elim (λ none. none)
    (λ (some : (r : Row) × (row_at tree [] ≡ Some r) × IsOpenStruct r). let yes : row_of tree ≡ Some some.0 = some.1 in absurd (cc))
    h.root

-- no row stands in the empty table
pub nothing_at : (path : Path) (row : Row) → row_at empty path ≡ Some row → ⊥
nothing_at [] row e = cc
nothing_at (step ∷ path) row e = cc

-- the empty table is valid
pub empty_valid : IsValidTable empty
empty_valid = record {
  form = (tt, tt, tt);
  rows = λ path row e. absurd (nothing_at path row e);
  paths = λ path row e. absurd (nothing_at path row e);
  labels = λ path row e. absurd (nothing_at path row e);
  root = inl refl;
  root_level = λ row e. absurd (nothing_at [] row e);
  element_levels = λ path n row e. absurd (nothing_at (path_below path (index n)) row e);
  parents = λ path step row e. absurd (nothing_at (path_below path step) row e);
  kinds = λ path step parent row d e. absurd (nothing_at path parent d);
  elements = λ path row i j e l m. absurd (nothing_at path row e);
}

-- the branches of a table are smaller than the table
pub below_smaller : (tree : Tree Row) → children_size (below tree) < tree_size tree
below_smaller (node row children rest) = omega arith

-- what is found right of a table with a valid row at its root
pub record IsWhole (row : Row) (tree : Tree Row) : Type 0 where
  pub valid : IsValidRow row
  pub fixed : fixed_of tree ≤ row.least
  pub children : AreSound row (below tree)
  pub rest : IsRestSound row (rest_below tree)

-- a walk finds a table right just where it finds its parts so
pub sound_parts : (tree : Tree Row) (row : Row) → row_of tree ≡ Some row → IsSound tree → IsWhole row tree
sound_parts (node None children rest) row e h = cc
sound_parts (node (Some here) children rest) row e h =
    let same : here ≡ row = cc in
    subst (λ r. IsWhole r (node (Some here) children rest)) same (record { valid = h.0; fixed = h.1; children = h.2; rest = h.3 })

pub sound_whole : (tree : Tree Row) (row : Row) → row_of tree ≡ Some row → IsWhole row tree → IsSound tree
sound_whole (node None children rest) row e h = cc
sound_whole (node (Some here) children rest) row e h =
    let same : row ≡ here = cc in
    let whole = subst (λ r. IsWhole r (node (Some here) children rest)) same h in
    (whole.valid, whole.fixed, whole.children, whole.rest)

-- a table without further elements has none that are wrong
pub no_rest_sound : (parent : Row) (tree : Tree Row) → rest_at (rest_below tree) ≡ None → IsRestSound parent (rest_below tree)
no_rest_sound parent (node row children no_rest) e = tt
no_rest_sound parent (node row children (onward n rest)) e = cc

-- the further elements are right just where their tree is
pub rest_sound : (parent : Row) (tree rest : Tree Row) → rest_at (rest_below tree) ≡ Some rest → (HasElement parent (row_of rest) × IsSound rest) ↔ IsRestSound parent (rest_below tree)
rest_sound parent (node row children no_rest) rest e = cc
rest_sound parent (node row children (onward n tree)) rest e =
    let same : rest ≡ tree = cc in (
      λ h. subst (λ t. HasElement parent (row_of t) × IsSound t) same h,
      λ h. subst (λ t. HasElement parent (row_of t) × IsSound t) (sym same) h,
    )

-- where nothing is found, there is nothing
pub not_some : (found : Option (Tree Row)) → is_some found ≡ false → found ≡ None
not_some None e = refl
not_some (Some tree) e = cc

-- where the list of branches is empty, there are no branches
pub no_children : (children : Children Row) → children_of children ≡ [] → children ≡ none
no_children none e = refl
no_children (child step tree children) e = cc

pub no_onward : (rest : Rest Row) → rest_at rest ≡ None → rest ≡ no_rest
no_onward no_rest e = refl
no_onward (onward n tree) e = cc

-- a table with nothing at its root and nothing below is valid, and no other one with nothing at its root
pub valid_end : (tree : Tree Row) → row_of tree ≡ None → ((below tree ≡ none) × (rest_below tree ≡ no_rest)) ↔ IsValidTable tree
valid_end (node None children rest) e = (
  λ h. subst IsValidTable (λ i. node None (sym h.0 i) (sym h.1 i)) empty_valid,
  λ h. let same = valid_empty (node None children rest) refl h in (ap below same, ap rest_below same),
)
valid_end (node (Some row) children rest) e = cc
