-- The rules of valid tables, as a walk from a place to those below it looks at them.
use Rattle.std.specs.Prelude.{◌≡◌, ◌≤◌, ◌⊎◌, Option, Some, None}
use Rattle.cue_lattice.specs.Path.{Step, label, index}
use Rattle.cue_row.specs.Kinds.{IsRowKind}
use Rattle.cue_row.specs.ValidRow.{IsWordStep, IsValidRow}
use Rattle.cue_row.specs.declared.parts.RowParts.{RowParts as Row}
use Rattle.cue_row.specs.declared.kind.RowKind.TheVariants as kinds
use Rattle.cue_row.specs.declared.level.Level.TheVariants.{Optional}
use Rattle.cue_table.specs.Tree.{Tree, node, Children, none, child, Rest, no_rest, onward}
use Rattle.cue_table.specs.Tree.{row_of, fixed_with}
use Rattle.cue_table.specs.Valid.{MayHold}

-- an element of a list has the level 0
abbrev pub IsLevelAt : Step → Row → Type 0
IsLevelAt (label text) row = Unit {0}
IsLevelAt (index n) row = row.level ≡ Optional

-- the row may stand one step below the parent
pub record MayStand (parent : Row) (step : Step) (row : Row) : Type 0 where
  pub word : IsWordStep step
  pub holds : MayHold parent step
  pub level : IsLevelAt step row

-- there is a row, and it may stand there
abbrev pub HasChild : Row → Step → Option Row → Type 0
HasChild parent step None = ⊥
HasChild parent step (Some row) = MayStand parent step row

-- the row may be that of an element below the parent, whatever its index is
pub record MayBeElement (parent : Row) (row : Row) : Type 0 where
  pub holds : IsRowKind parent kinds.List ⊎ IsRowKind parent kinds.Nothing
  pub level : row.level ≡ Optional

abbrev pub HasElement : Row → Option Row → Type 0
HasElement parent None = ⊥
HasElement parent (Some row) = MayBeElement parent row

-- A valid row stands at the place and at each below it, and each may stand below its parent; and
-- from the least length of a list on, its elements are alike.
abbrev mutual
  pub IsSound : Tree Row → Type 0
  IsSound (node None children rest) = ⊥
  IsSound (node (Some row) children rest) =
      IsValidRow row × (fixed_with rest children ≤ row.least) × AreSound row children
      × IsRestSound row rest

  pub AreSound : Row → Children Row → Type 0
  AreSound parent none = Unit {0}
  AreSound parent (child step tree children) =
      HasChild parent step (row_of tree) × IsSound tree × AreSound parent children

  pub IsRestSound : Row → Rest Row → Type 0
  IsRestSound parent no_rest = Unit {0}
  IsRestSound parent (onward n tree) = HasElement parent (row_of tree) × IsSound tree
