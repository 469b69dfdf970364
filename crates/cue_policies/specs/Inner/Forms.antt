-- Well-formed policies, as a walk from a place to those below it looks at them.
use Rattle.std.specs.Prelude.{◌≡◌, Bool, true, Option, Some, None, ℕ, List, [], ◌∷◌}
use Rattle.cue_lattice.specs.Path.{Step, label, index}
use Rattle.cue_row.specs.declared.parts.RowParts.{RowParts as Row}
use Rattle.cue_table.specs.Tree.{Tree, node, Children, none, child, Rest, no_rest, onward}
use Rattle.cue_policies.specs.Patterns.{IsPattern}

-- none of the labels is a pattern
abbrev pub ArePlain : List (List ℕ) → Type 0
ArePlain [] = Unit {0}
ArePlain (l ∷ labels) = (¬ IsPattern l) × ArePlain labels

abbrev pub IsPlainSet : Option (List (List ℕ)) → Type 0
IsPlainSet None = Unit {0}
IsPlainSet (Some labels) = ArePlain labels

abbrev pub IsPlainRow : Option Row → Type 0
IsPlainRow None = Unit {0}
IsPlainRow (Some row) = IsPlainSet row.labels

-- a step to a branch is no pattern in a list
abbrev pub MayStep : Bool → Step → Type 0
MayStep in_list (label l) = ¬ ((in_list ≡ true) × IsPattern l)
MayStep in_list (index n) = Unit {0}

-- whether what is below a step is in a list
abbrev pub below_step : Bool → Step → Bool
below_step in_list (label l) = in_list
below_step in_list (index n) = true

-- no set of labels has a pattern, at the place or below it, and none is a label in a list
abbrev mutual
  pub IsForm : Bool → Tree Row → Type 0
  IsForm in_list (node row children rest) =
      IsPlainRow row × AreForms in_list children × IsRestForm rest

  pub AreForms : Bool → Children Row → Type 0
  AreForms in_list none = Unit {0}
  AreForms in_list (child step tree children) =
      MayStep in_list step × IsForm (below_step in_list step) tree × AreForms in_list children

  pub IsRestForm : Rest Row → Type 0
  IsRestForm no_rest = Unit {0}
  IsRestForm (onward n tree) = IsForm true tree
