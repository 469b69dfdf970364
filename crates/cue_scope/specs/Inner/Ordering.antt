-- What the program keeps while it orders a graph: what private clauses and proofs alone cite.
use Rattle.std.specs.Prelude.{ℕ, ◌≡◌, ◌<◌, ◌≤◌, ◌+◌, ◌-◌, ◌⊎◌, ◌&&◌, Bool, true, false, cond, not}
use Rattle.std.specs.Prelude.{eqb, nat_lt, List, [], ◌∷◌, length, slice_index, slice_index_or}
use Rattle.std.specs.Prelude.{Option, None, Some, is_some}
use Rattle.std.specs.List.{count_by}
use Rattle.cue_scope.specs.Graph.{IsNodeIn, targets, PointsTo, IsAcyclic, IsOrder, IsFirstCycle}
use Rattle.cue_scope.specs.declared.graph.Order.{Order}
use Rattle.cue_scope.specs.declared.graph.Order.TheVariants.{Ordered, Cycle}

abbrev pub IsOrderOf : List (List ℕ) → Order → Type 0
IsOrderOf g (Ordered order) = IsAcyclic g × IsOrder g order.items
IsOrderOf g (Cycle i) = IsFirstCycle g i × (i < length g)

-- the first of the nodes that has no rank
abbrev pub first_open : List ℕ → List ℕ → Option ℕ
first_open ranks [] = None
first_open ranks (j ∷ js) = cond (eqb (slice_index ranks j) 0) (Some j) (first_open ranks js)

-- it is a node without a rank, and all that it points to have one
abbrev pub is_ready : List (List ℕ) → List ℕ → ℕ → Bool
is_ready g ranks i =
    nat_lt i (length ranks) && eqb (slice_index ranks i) 0
    && not (is_some (first_open ranks (targets g i)))

abbrev pub HasNoReadyNode : List (List ℕ) → List ℕ → Type 0
HasNoReadyNode g ranks = (i : ℕ) → is_ready g ranks i ≡ false

-- Each node of the order has its place there, counted from 1, as its rank, and those that it points
-- to have smaller ones.
pub record IsPlaced (g : List (List ℕ)) (order ranks : List ℕ) : Type 0 where
  pub lengths : length ranks ≡ length g
  pub nodes : (k : ℕ) → k < length order → slice_index order k < length g
  pub ranked : (k : ℕ) → k < length order → slice_index ranks (slice_index order k) ≡ k + 1
  pub listed : (i : ℕ) → 0 < slice_index ranks i
      → (slice_index ranks i ≤ length order) × (slice_index order (slice_index ranks i - 1) ≡ i)
  pub after : (i j : ℕ) → PointsTo g i j → 0 < slice_index ranks i
      → (0 < slice_index ranks j) × (slice_index ranks j < slice_index ranks i)

-- These nodes were reached, and those that weren't before were opened.
pub record Spread (before after : List Bool) (waiting now nodes : List ℕ) : Type 0 where
  pub lengths : length after ≡ length before
  pub kept : (i : ℕ) → slice_index_or before i false ≡ true → slice_index_or after i false ≡ true
  pub all : (i : ℕ) → IsNodeIn i nodes → slice_index_or after i false ≡ true
  pub only : (i : ℕ) → slice_index_or after i false ≡ true
      → (slice_index_or before i false ≡ true) ⊎ IsNodeIn i nodes
  pub new : (i : ℕ) → slice_index_or after i false ≡ true
      → (slice_index_or before i false ≡ true) ⊎ IsNodeIn i now
  pub stays : (i : ℕ) → IsNodeIn i waiting → IsNodeIn i now
  pub from : (i : ℕ) → IsNodeIn i now → IsNodeIn i waiting ⊎ IsNodeIn i nodes
  pub left : count_by not after + length now ≡ count_by not before + length waiting
