-- What a walk over the branches of a table still has to write.
use Rattle.std.specs.Prelude.{◌≡◌, ℕ, ◌+◌, List, [], ◌∷◌, ◌++◌, length, take, drop}
use Rattle.std.specs.Prelude.{Option, Some, None}
use Rattle.std.specs.List.{sum_by, AllByRecursion}
use Rattle.cue_row.specs.declared.parts.RowParts.{RowParts as Row}
use Rattle.cue_table.specs.Tree.{Tree}
use Rattle.cue_codec.specs.declared.row_walk.WalkPlace.{WalkPlace}
use Rattle.cue_codec.specs.declared.row_walk.RowWalk.{RowWalk}
use Rattle.cue_codec.specs.declared.row_walk.Way.{Way}
use Rattle.cue_codec.specs.Parts.{step_bytes}
use Rattle.cue_codec.specs.Version.{written_version}
use Rattle.cue_codec.specs.Inner.Ways.{step_of_way, branches_in, tree_bytes}
use Rattle.cue_codec.specs.Inner.Ways.{branches_bytes, IsBranch}

-- What a stack of places has to write, the last place first. Its first place is so many steps from
-- the root; the steps above it are the bytes `above`, and those from there to the last place the
-- bytes `steps`.
abbrev pub stack_bytes : ℕ → List ℕ → List ℕ → List WalkPlace → List ℕ
stack_bytes depth above steps [] = []
stack_bytes depth above steps (place ∷ places) =
    stack_bytes (depth + 1) (above ++ take place.size steps) (drop place.size steps) places
    ++ branches_bytes depth (above ++ take place.size steps)
    (branches_in place.below)

-- what a branch has to write that comes before all others
abbrev pub next_bytes : ℕ → List ℕ → Option (Way × Tree Row) → List ℕ
next_bytes depth steps None = []
next_bytes depth steps (Some next) =
    tree_bytes depth (steps ++ step_bytes written_version (step_of_way next.0)) next.1

abbrev pub walk_bytes : RowWalk → List ℕ
walk_bytes walk =
    next_bytes (length walk.stack.items) walk.steps.items walk.next
    ++ stack_bytes 0 [] walk.steps.items walk.stack.items

-- the branches below places can be written, where the first is so many steps from the root
abbrev pub ArePlaces : ℕ → List WalkPlace → Type 0
ArePlaces depth [] = Unit {0}
ArePlaces depth (place ∷ places) =
    AllByRecursion (IsBranch (depth + 1)) (branches_in place.below)
    × ArePlaces (depth + 1) places

-- so can the one that comes next
abbrev pub IsNext : ℕ → Option (Way × Tree Row) → Type 0
IsNext depth None = Unit {0}
IsNext depth (Some next) = IsBranch depth (step_of_way next.0, next.1)

-- how many bytes the steps of places have
abbrev pub steps_size : List WalkPlace → ℕ
steps_size places = sum_by (λ place. place.size) places

pub record IsWalk (walk : RowWalk) : Type 0 where
  pub sizes : steps_size walk.stack.items ≡ length walk.steps.items
  pub places : ArePlaces 0 walk.stack.items
  pub next : IsNext (length walk.stack.items) walk.next
