-- Which tables are valid: those that a site may hold, and that state bytes tell. Each rule speaks
-- of the rows at paths.
use Rattle.std.specs.Prelude.{◌≡◌, ◌⊎◌, ℕ, ◌≤◌, [], ◌∷◌, ◌++◌, None, Some}
use Rattle.std.specs.List.{AllByRecursion}
use Rattle.cue_lattice.specs.Path.{Step, label, index, Path}
use Rattle.cue_row.specs.Steps.{IsWithinDepth}
use Rattle.cue_row.specs.Row.{RefusesAsked, IsRow}
use Rattle.cue_row.specs.Kinds.{IsRowKind}
use Rattle.cue_row.specs.ValidRow.{IsWordStep, IsValidRow}
use Rattle.cue_row.specs.declared.parts.RowParts.{RowParts as Row}
use Rattle.cue_row.specs.declared.kind.RowKind.TheVariants as kinds
use Rattle.cue_row.specs.declared.level.Level.TheVariants.{Optional}
use Rattle.cue_table.specs.Tree.{Tree, empty, row_at, branch_at}
use Rattle.cue_table.specs.Form.{IsTable}

-- the row stands at the path
abbrev pub IsPlaceThere : Tree Row → Path → Row → Type 0
IsPlaceThere tree path row = row_at tree path ≡ Some row

-- the path one step further
abbrev pub path_below : Path → Step → Path
path_below path step = path ++ step ∷ []

-- P holds of each row and its path
abbrev pub EachRow : (Path → Row → Type 0) → Tree Row → Type 0
EachRow P tree = (path : Path) (row : Row) → IsPlaceThere tree path row → P path row

-- P holds of each two rows of which one stands one step below the other, and of that step
abbrev pub EachBelow : (Row → Step → Row → Type 0) → Tree Row → Type 0
EachBelow P tree =
    (path : Path) (step : Step) (parent row : Row) → IsPlaceThere tree path parent
    → IsPlaceThere tree (path_below path step) row → P parent step row

-- ---- the rules Each row is of one of the five kinds, what it says beside fits its kind, it keeps
-- the limits, and it is not free.
abbrev pub HasValidRows : Tree Row → Type 0
HasValidRows = EachRow (λ path row. IsValidRow row)

-- no path of a row has too many steps
abbrev pub HasShortPaths : Tree Row → Type 0
HasShortPaths = EachRow (λ path row. IsWithinDepth path)

-- the labels on the path of a row are in UTF-8 and not too long
abbrev pub HasWordLabels : Tree Row → Type 0
HasWordLabels = EachRow (λ path row. AllByRecursion IsWordStep path)

-- a struct that allows all labels
abbrev pub IsOpenStruct : Row → Type 0
IsOpenStruct row = IsRowKind row kinds.Struct × (row.labels ≡ None)

-- there is no row, or an open struct stands at the root
abbrev pub HasOpenRoot : Tree Row → Type 0
HasOpenRoot tree = (tree ≡ empty) ⊎ ((row : Row) × IsPlaceThere tree [] row × IsOpenStruct row)

-- the level of the root and of the elements of lists is 0
abbrev pub HasRootLevel : Tree Row → Type 0
HasRootLevel tree = (row : Row) → IsPlaceThere tree [] row → row.level ≡ Optional

abbrev pub HasElementLevels : Tree Row → Type 0
HasElementLevels tree =
    (path : Path) (n : ℕ) (row : Row) → IsPlaceThere tree (path_below path (index n)) row
    → row.level ≡ Optional

-- above each row but the root's stands a row
abbrev pub HasParents : Tree Row → Type 0
HasParents tree =
    (path : Path) (step : Step) (row : Row) → IsPlaceThere tree (path_below path step) row
    → (parent : Row) × IsPlaceThere tree path parent

-- Fields stand directly below structs alone and elements below lists alone, or below what allows
-- nothing to stand.
abbrev pub MayHold : Row → Step → Type 0
MayHold parent (label text) = IsRowKind parent kinds.Struct ⊎ IsRowKind parent kinds.Nothing
MayHold parent (index n) = IsRowKind parent kinds.List ⊎ IsRowKind parent kinds.Nothing

abbrev pub HasFittingParents : Tree Row → Type 0
HasFittingParents = EachBelow (λ parent step row. MayHold parent step)

-- From the least length of a list on, all elements are alike: those that are told one by one stand
-- below it, and the rest begins there at the latest.
abbrev pub HasElements : Tree Row → Type 0
HasElements tree =
    (path : Path) (row : Row) (i j : ℕ) → IsPlaceThere tree path row → row.least ≤ i → row.least ≤ j
    → branch_at tree (path_below path (index i)) ≡ branch_at tree (path_below path (index j))

-- A valid table: its rows are kept in their one form, each at one path, and none is free; and it
-- keeps the rules above.
pub record IsValidTable (tree : Tree Row) : Type 0 where
  pub form : IsTable RefusesAsked IsRow tree
  pub rows : HasValidRows tree
  pub paths : HasShortPaths tree
  pub labels : HasWordLabels tree
  pub root : HasOpenRoot tree
  pub root_level : HasRootLevel tree
  pub element_levels : HasElementLevels tree
  pub parents : HasParents tree
  pub kinds : HasFittingParents tree
  pub elements : HasElements tree
