-- The branches below a place and the bytes of their rows, as a walk over them writes these.
use Rattle.std.specs.Prelude.{ℕ, ◌+◌, ◌≤◌, List, ◌++◌, map, Option}
use Rattle.std.specs.List.{flat_map}
use Rattle.std.specs.Option.{option_map, option_to_list}
use Rattle.cue_lattice.specs.Limits.{step_limit}
use Rattle.cue_row.specs.declared.parts.RowParts.{RowParts as Row}
use Rattle.cue_table.specs.StepsOfCode.{step_at}
use Rattle.cue_table.specs.Tree.{Tree, Children, below, rest_below, rest_at, children_of}
use Rattle.cue_table.specs.Depth.{tree_depth}
use Rattle.cue_table.specs.Inner.ValidWalk.{IsSound}
use Rattle.cue_codec.specs.declared.row_walk.Branches.{Branches}
use Rattle.cue_codec.specs.declared.row_walk.Way.{Way}
use Rattle.cue_codec.specs.declared.row_walk.Way.TheVariants as ways
use Rattle.cue_codec.specs.Entry.{StateStep, at, to_rest, entries_of}
use Rattle.cue_codec.specs.Parts.{step_bytes}
use Rattle.cue_codec.specs.Reading.{IsShortStep}
use Rattle.cue_codec.specs.RowBytes.{row_bytes_from}
use Rattle.cue_codec.specs.Version.{written_version}

abbrev pub step_of_way : Way → StateStep
step_of_way (ways.At step) = at (step_at step)
step_of_way ways.ToRest = to_rest

-- branches with the step to each, that of the rest behind the others
abbrev pub branches_with : Children Row → Option (Tree Row) → List (StateStep × Tree Row)
branches_with children rest =
    map (λ c. (at c.0, c.1)) (children_of children)
    ++ option_to_list (option_map (λ t. (to_rest, t)) rest)

-- those that are left
abbrev pub branches_in : Branches → List (StateStep × Tree Row)
branches_in branches = branches_with branches.children branches.rest

-- those below a place
abbrev pub branches_of : Tree Row → List (StateStep × Tree Row)
branches_of tree = branches_with (below tree) (rest_at (rest_below tree))

-- the rows of a branch so many steps from the root, where these steps are the bytes in front
abbrev pub tree_bytes : ℕ → List ℕ → Tree Row → List ℕ
tree_bytes depth steps tree = flat_map (row_bytes_from written_version depth steps) (entries_of written_version tree)

-- the rows of branches below such a place
abbrev pub branches_bytes : ℕ → List ℕ → List (StateStep × Tree Row) → List ℕ
branches_bytes depth steps branches =
    flat_map (λ b. tree_bytes (depth + 1) (steps ++ step_bytes written_version b.0) b.1) branches

abbrev pub HasShortStep : StateStep → Type 0
HasShortStep (at step) = IsShortStep step
HasShortStep to_rest = Unit {0}

-- a branch that can be written, so many steps from the root
pub record IsBranch (depth : ℕ) (branch : StateStep × Tree Row) : Type 0 where
  pub step : HasShortStep branch.0
  pub sound : IsSound branch.1
  pub deep : depth + tree_depth branch.1 ≤ step_limit
