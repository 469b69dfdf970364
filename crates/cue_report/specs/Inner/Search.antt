-- How the lists of a report are found, place by place.
use Rattle.std.specs.Prelude.{ℕ, zero, suc, ◌+◌, ◌-◌, min, Bool, true, false, not, ◌&&◌, ◌||◌, List}
use Rattle.std.specs.Prelude.{[], ◌∷◌, ◌++◌, map}
use Rattle.std.specs.Prelude.{nat_lt, Option, None, Some}
use Rattle.std.specs.List.{flat_map}
use Rattle.cue_lattice.specs.Bools.{is_nil}
use Rattle.cue_lattice.specs.Path as paths
use Rattle.cue_lattice.specs.Path.{label, index, Path}
use Rattle.cue_scalars.specs.declared.scalar_set.ScalarSet.{ScalarSet}
use Rattle.cue_row.specs.LabelSets.{allows_label}
use Rattle.cue_row.specs.declared.level.Level.{Level}
use Rattle.cue_row.specs.declared.level.Level.TheVariants.{Optional, Required, Given}
use Rattle.cue_row.specs.declared.parts.RowParts.{RowParts as Row}
use Rattle.cue_table.specs.Tree.{Tree, node, Children, none, child, Rest, no_rest, onward, row_of}
use Rattle.cue_report.specs.declared.conflict.Conflict.{Conflict}

-- whether no scalar is in the set
abbrev pub is_empty_set : ScalarSet → Bool
is_empty_set set =
    not (set.null || set.no || set.yes)
    && (is_nil set.ints && (not set.texts.0 && is_nil set.texts.1))

-- whether the least length is above the greatest
abbrev pub is_above : ℕ → Option ℕ → Bool
is_above least None = false
is_above least (Some most) = nat_lt most least

-- whether no value may stand
abbrev pub lacks_value : Row → Bool
lacks_value row =
    (row.list_ok && is_above row.least row.most)
    || (not row.list_ok && (not row.struct_ok && is_empty_set row.value))

abbrev pub has_no_value : Option Row → Bool
has_no_value None = false
has_no_value (Some row) = lacks_value row

-- whether a field is required or there
abbrev pub is_wanted : Level → Bool
is_wanted Optional = false
is_wanted Required = true
is_wanted Given = true

abbrev pub has_level : Option Row → Bool
has_level None = false
has_level (Some row) = is_wanted row.level

-- whether each list is longer than n
abbrev pub is_longer : Option Row → ℕ → Bool
is_longer None n = false
is_longer (Some row) n = nat_lt n row.least

-- whether the step from one place to the next is demanded, by the rows of both
abbrev pub is_demanded : Option Row → paths.Step → Option Row → Bool
is_demanded above (label text) row = has_level row
is_demanded above (index n) row = is_longer above n

-- whether the place above refuses the label of the step
abbrev pub is_refused : Option Row → paths.Step → Bool
is_refused None step = false
is_refused (Some row) (label text) = not (allows_label row.labels text)
is_refused (Some row) (index n) = false

-- the conflict of a path, seen from a place above it
abbrev pub conflict_under : Path → Conflict → Conflict
conflict_under path conflict = record conflict { path = path ++ conflict.path }

-- what is told of these conflicts, seen from there
abbrev pub conflicts_under : {X : Type 0} → (Conflict → List X) → Path → List Conflict → List X
conflicts_under piece path found = flat_map piece (map (conflict_under path) found)

-- the list, or nothing
abbrev pub only_if : {X : Type 0} → Bool → List X → List X
only_if true xs = xs
only_if false xs = []

-- the conflict at a place itself, by its two causes
abbrev pub conflict_here : Bool → Bool → List Conflict
conflict_here no_value not_allowed =
    only_if (no_value || not_allowed)
    (record { path = []; no_value = no_value; not_allowed = not_allowed } ∷ [])

-- how many elements each list has
abbrev pub least_at : Option Row → ℕ
least_at None = 0
least_at (Some row) = row.least

-- from which of so many elements on they are the rest: their number, where none is
abbrev pub rest_from : Rest Row → ℕ → ℕ
rest_from no_rest least = least
rest_from (onward n tree) least = min n least

-- the conflicts of so many elements from the first on, each of which has these
abbrev pub each_index : ℕ → ℕ → List Conflict → List Conflict
each_index first zero found = []
each_index first (suc count) found =
    each_index first count found ++ map (conflict_under (index (first + count) ∷ [])) found

-- the conflicts at a place and below, of which the place above refuses the label or not
abbrev mutual
  pub conflicts_in : Bool → Tree Row → List Conflict
  conflicts_in not_allowed (node row children rest) =
      conflict_here (has_no_value row) not_allowed
      ++ (conflicts_below row children ++ conflicts_onward row rest)

  pub conflicts_below : Option Row → Children Row → List Conflict
  conflicts_below row none = []
  conflicts_below row (child step tree children) =
      only_if (is_demanded row step (row_of tree))
      (map (conflict_under (step ∷ [])) (conflicts_in (is_refused row step) tree))
      ++ conflicts_below row children

  pub conflicts_onward : Option Row → Rest Row → List Conflict
  conflicts_onward row no_rest = []
  conflicts_onward row (onward n tree) =
      each_index n (least_at row - n) (conflicts_in false tree)
