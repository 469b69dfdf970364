-- Places on the way along their elements.
use Rattle.std.specs.Prelude.{◌≡◌, ℕ, ◌<◌, ◌≤◌, Option}
use Rattle.std.specs.Option.{option_map}
use Rattle.cue_lattice.specs.Path.{index}
use Rattle.cue_table.specs.Tree.{Tree, step_into}
use Rattle.cue_table.specs.declared.lists.ListSide.{ListSide}

-- the element that was found last
abbrev pub found_by : {R Q : Type 0} → ListSide R Q → Option (Tree R)
found_by side = option_map (λ node. node.now) side.found.node

-- each element from an index on, up to where they are alike, is what was found
abbrev pub AreFound : {R Q : Type 0} → Tree R → ℕ → ListSide R Q → Type 0
AreFound tree from side =
    (i : ℕ) → from ≤ i → i < side.found.end → step_into tree (index i) ≡ found_by side

-- the place is this one, and what was found is its element with this index
pub record IsAt {R Q : Type 0} (tree : Tree R) (number : ℕ) (side : ListSide R Q) : Type 0 where
  pub place : side.place.now ≡ tree
  pub behind : number < side.found.end
  pub same : AreFound tree number side
