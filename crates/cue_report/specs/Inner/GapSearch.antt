-- How the gaps of a table are found, place by place.
use Rattle.std.specs.Prelude.{◌≡◌, ◌↔◌, ◌⊎◌, ℕ, zero, suc, ◌+◌, ◌-◌, ◌≤◌, ◌<◌, min, nat_lt}
use Rattle.std.specs.Prelude.{if◌then◌else◌}
use Rattle.std.specs.Prelude.{Bool, true, false, List, [], ◌∷◌, ◌++◌, map, Option, Some, IsTrue}
use Rattle.std.specs.List.{AllByRecursion, flat_map}
use Rattle.std.specs.declared.cmp.Ordering.TheVariants.{Less}
use Rattle.cue_lattice.specs.OneOf.{OneOf}
use Rattle.cue_lattice.specs.Path as paths
use Rattle.cue_lattice.specs.Path.{index, Path, path_cmp}
use Rattle.cue_lattice.specs.Question.{Refusals}
use Rattle.cue_row.specs.declared.parts.RowParts.{RowParts as Row}
use Rattle.cue_row.specs.Row as rows
use Rattle.cue_table.specs.Refuses.{RowRefuses, TableRefuses}
use Rattle.cue_table.specs.Spans.{Span, field, elements}
use Rattle.cue_table.specs.Tree.{Tree, Children, Rest, no_rest, onward, row_of, row_at, find}
use Rattle.cue_report.specs.Answers.{IsDemanded, HasNoValue, IsNotAllowed}
use Rattle.cue_report.specs.Gaps.{IsMissing, IsFreeRow, HasNoChoice}
use Rattle.cue_report.specs.Listing.{IsRising, Lists}
use Rattle.cue_report.specs.Inner.Search.{is_demanded, is_refused}
use Rattle.cue_report.specs.Telling.{Tally}
use Rattle.cue_report.specs.Inner.Telling.{WritesPieces, WritesPiecesPrefix}
use Rattle.cue_report.specs.declared.gap.Gap.{Gap}

-- what is refused at the place of a row, whatever its path
abbrev pub AtPlace : Option Row → Refusals
AtPlace row path = RowRefuses rows.RowRefusesQuestion row

-- no single value is told
abbrev pub IsOpenAt : Option Row → Type 0
IsOpenAt row = IsFreeRow (AtPlace row) [] ⊎ HasNoChoice (AtPlace row) []

-- a gap, where the label is allowed, that is missing or not
pub record IsGapAt (row : Option Row) (missing : Bool) : Type 0 where
  pub has_value : ¬ HasNoValue (AtPlace row) []
  pub missing_is : IsTrue missing ↔ IsMissing (AtPlace row) []
  pub cause : IsMissing (AtPlace row) [] ⊎ IsOpenAt row

-- the label of the place is refused: at the root as is told, and below as the tree refuses it
abbrev pub IsBarred : Bool → Refusals → Path → Type 0
IsBarred not_allowed refuses [] = IsTrue not_allowed
IsBarred not_allowed refuses (step ∷ path) = IsNotAllowed refuses (step ∷ path)

-- a gap in a tree, of which the place above refuses the label or not
pub record IsGapIn (not_allowed : Bool) (tree : Tree Row) (gap : Gap) : Type 0 where
  pub demanded : IsDemanded (TableRefuses rows.RowRefusesQuestion tree) gap.path
  pub allowed : ¬ IsBarred not_allowed (TableRefuses rows.RowRefusesQuestion tree) gap.path
  pub lacking : IsGapAt (row_at tree gap.path) gap.missing

-- a gap at a place itself
pub record IsGapHere (not_allowed : Bool) (row : Option Row) (gap : Gap) : Type 0 where
  pub here : gap.path ≡ []
  pub allowed : not_allowed ≡ false
  pub lacking : IsGapAt row gap.missing

-- a gap at or below one of these branches of a place with this row, if the step to it is demanded
pub record IsGapBelow (row : Option Row) (children : Children Row) (gap : Gap) : Type 0 where
  pub step : paths.Step
  pub tree : Tree Row
  pub path : Path
  pub is : gap.path ≡ step ∷ path
  pub found : find step children ≡ Some tree
  pub demanded : is_demanded row step (row_of tree) ≡ true
  pub inner : IsGapIn (is_refused row step) tree (record gap { path = path })

-- a gap at or below an element from the first on, before the end, each of which is this tree
pub record IsGapAmong (first end : ℕ) (tree : Tree Row) (gap : Gap) : Type 0 where
  pub number : ℕ
  pub within : (first ≤ number) × (number < end)
  pub path : Path
  pub is : gap.path ≡ index number ∷ path
  pub inner : IsGapIn false tree (record gap { path = path })

-- so of the elements that each list has and that are its rest
abbrev pub IsGapOnward : ℕ → Rest Row → Gap → Type 0
IsGapOnward least no_rest gap = ⊥
IsGapOnward least (onward n tree) gap = IsGapAmong n least tree gap

-- the gap of a path, seen from a place above it
abbrev pub gap_above : Path → Gap → Gap
gap_above path gap = record gap { path = path ++ gap.path }

-- what is told of these gaps, seen from there
abbrev pub gaps_above : {X : Type 0} → (Gap → List X) → Path → List Gap → List X
gaps_above piece path found = flat_map piece (map (gap_above path) found)

-- A search at a path tells of exactly those gaps of which P holds, in the order of their paths.
pub record WritesGapsWhere {X : Type 0} (piece : Gap → List X) (P : Gap → Type 0) (path : Path)
    (old new : Tally X) : Type 0 where
  pub found : List Gap
  pub lists : Lists (λ gap. gap.path) P found
  pub told : WritesPieces old new (gaps_above piece path found)

-- These are those of which P holds up to some place, in the order of their paths: each other one is
-- behind them.
pub record IsFront (P : Gap → Type 0) (found : List Gap) : Type 0 where
  pub sound : AllByRecursion P found
  pub rising : IsRising (λ gap. gap.path) found
  pub next : (gap : Gap) → P gap → OneOf (λ y. y ≡ gap) found
      ⊎ AllByRecursion (λ y. path_cmp y.path gap.path ≡ Less) found

-- A search at a path tells of some in front of those of which P holds, of the last one maybe not
-- all.
pub record WritesGapsPrefixWhere {X : Type 0} (piece : Gap → List X) (P : Gap → Type 0) (path : Path)
    (old new : Tally X) : Type 0 where
  pub found : List Gap
  pub front : IsFront P found
  pub told : WritesPiecesPrefix old new (gaps_above piece path found)

-- a place where anything may stand
abbrev pub free_at : Path → Gap
free_at path = record { path = path; missing = false }

-- so many free elements, from the first on
abbrev pub free_elements : ℕ → ℕ → List Gap
free_elements first zero = []
free_elements first (suc count) =
    free_elements first count ++ free_at (index (first + count) ∷ []) ∷ []

-- the free elements from the next on that are before a span, where so many elements are demanded
-- and one of the span is
abbrev pub free_before : ℕ → ℕ → Span → List Gap
free_before next least (field text) = []
free_before next least (elements first more) =
    if nat_lt first least then free_elements next (first - next) else []

-- the first element that is not looked at, after the demanded ones of the span were
abbrev pub next_after : ℕ → ℕ → Span → ℕ
next_after next least (field text) = next
next_after next least (elements first more) =
    if nat_lt first least then min least (first + more + 1) else next
