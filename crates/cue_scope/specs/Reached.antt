-- Orders of those nodes of a graph that are reached, and how often these point to others.
use Rattle.std.specs.Prelude.{ℕ, ◌≡◌, ◌<◌, ◌↔◌, List, [], ◌∷◌, ◌++◌, length, slice_index, eqb}
use Rattle.std.specs.List.{count_by}
use Rattle.cue_scope.specs.Graph.{IsNodeIn, IsReached, PointsTo, targets}

-- the nodes that are reached from some nodes, each once, after those that it points to
pub record IsReachedOrder (g : List (List ℕ)) (from order : List ℕ) : Type 0 where
  pub reached : (i : ℕ) → IsNodeIn i order ↔ IsReached g from i
  pub after : (k j : ℕ) → k < length order → PointsTo g (slice_index order k) j
      → (m : ℕ) × (m < k) × (slice_index order m ≡ j)
  pub once : (k m : ℕ) → k < length order → m < length order
      → slice_index order k ≡ slice_index order m → k ≡ m

-- how often a node is in a list
abbrev pub times_in_list : ℕ → List ℕ → ℕ
times_in_list i js = count_by (eqb i) js

-- what these nodes point to, one after another
abbrev pub targets_of : List (List ℕ) → List ℕ → List ℕ
targets_of g [] = []
targets_of g (k ∷ ks) = targets g k ++ targets_of g ks
