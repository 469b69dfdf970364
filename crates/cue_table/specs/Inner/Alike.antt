-- Elements that are alike, and where an element is among runs of them.
use Rattle.std.specs.Prelude.{◌≡◌, ℕ, ◌<◌, ◌≤◌, nat_lt, if◌then◌else◌, List, length, slice_index_or}
use Rattle.std.specs.Prelude.{Option}
use Rattle.std.specs.declared.cmp.Ordering.{Ordering}
use Rattle.std.specs.declared.cmp.Ordering.TheVariants.{Less, Equal, Greater}
use Rattle.cue_table.specs.Tree.{Tree}
use Rattle.cue_table.specs.Inner.View.{last_of}
use Rattle.cue_table.specs.declared.node.ElementRun.{ElementRun}

-- what is found from an index on is alike up to another one behind it
pub record AreAlike {R : Type 0} (from to : ℕ) (found : ℕ → Option (Tree R)) : Type 0 where
  pub behind : from < to
  pub same : (i : ℕ) → from ≤ i → i < to → found i ≡ found from

-- whether the elements of a run stand before an index, at it, or behind it
abbrev pub run_cmp : {R Q : Type 0} → ℕ → ElementRun R Q → Ordering
run_cmp number run =
    if nat_lt (last_of run.first run.more) number then Less
    else if nat_lt number run.first then Greater else Equal

-- the element is one of the run at this place
pub record IsRun {R Q : Type 0} (runs : List (ElementRun R Q)) (number at : ℕ) : Type 0 where
  pub in_range : at < length runs
  pub here : (d : ElementRun R Q) → run_cmp number (slice_index_or runs at d) ≡ Equal

-- the runs before this place stand before the element, and the others behind it
pub record IsBetween {R Q : Type 0} (runs : List (ElementRun R Q)) (number at : ℕ) : Type 0 where
  pub in_range : at ≤ length runs
  pub before : (k : ℕ) (d : ElementRun R Q) → k < at → run_cmp number (slice_index_or runs k d) ≡ Less
  pub behind : (k : ℕ) (d : ElementRun R Q) → at ≤ k → k < length runs
      → run_cmp number (slice_index_or runs k d) ≡ Greater
