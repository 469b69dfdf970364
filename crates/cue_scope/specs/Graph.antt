-- Graphs, as the list of the nodes that each node points to. Nodes are numbered from 0.
use Rattle.std.specs.Prelude.{ℕ, ◌≡◌, ◌<◌, ◌⊎◌, List, [], ◌∷◌, length, slice_index, slice_index_or}

abbrev pub IsNodeIn : ℕ → List ℕ → Type 0
IsNodeIn i [] = ⊥
IsNodeIn i (j ∷ js) = (i ≡ j) ⊎ IsNodeIn i js

-- what the node i points to
abbrev pub targets : List (List ℕ) → ℕ → List ℕ
targets g i = slice_index_or g i []

abbrev pub PointsTo : List (List ℕ) → ℕ → ℕ → Type 0
PointsTo g i j = IsNodeIn j (targets g i)

-- one of these nodes, or reached from one of them by steps
pub data IsReached (g : List (List ℕ)) (from : List ℕ) : ℕ → Type 0 where
  start : (i : ℕ) → IsNodeIn i from → IsReached g from i
  go_on : (i j : ℕ) → IsReached g from i → PointsTo g i j → IsReached g from j

-- one step or more lead from the one node to the other
abbrev pub Reaches : List (List ℕ) → ℕ → ℕ → Type 0
Reaches g i j = IsReached g (targets g i) j

-- no node reaches itself
abbrev pub IsAcyclic : List (List ℕ) → Type 0
IsAcyclic g = (i : ℕ) → ¬ Reaches g i i

-- the first node that reaches itself
pub record IsFirstCycle (g : List (List ℕ)) (i : ℕ) : Type 0 where
  pub reaches : Reaches g i i
  pub first : (j : ℕ) → j < i → ¬ Reaches g j j

-- these are nodes
abbrev pub AreNodes : List (List ℕ) → List ℕ → Type 0
AreNodes g is = (i : ℕ) → IsNodeIn i is → i < length g

-- each node points to nodes
abbrev pub IsClosed : List (List ℕ) → Type 0
IsClosed g = (i : ℕ) → AreNodes g (targets g i)

-- Each node stands in the list, after those that it points to.
pub record IsOrder (g : List (List ℕ)) (order : List ℕ) : Type 0 where
  pub nodes : AreNodes g order
  pub all : (i : ℕ) → i < length g → IsNodeIn i order
  pub after : (k j : ℕ) → k < length order → PointsTo g (slice_index order k) j
      → (m : ℕ) × (m < k) × (slice_index order m ≡ j)
  pub once : (k m : ℕ) → k < length order → m < length order
      → slice_index order k ≡ slice_index order m → k ≡ m
