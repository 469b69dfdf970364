-- The rows of a table as state bytes tell them: where each stands, from which index on the elements
-- there are alike, and what it says.
use Rattle.std.specs.Prelude.{ℕ, List, [], ◌∷◌, ◌++◌, map}
use Rattle.std.specs.List.{AllByRecursion}
use Rattle.std.specs.Option.{option_to_list}
use Rattle.cue_lattice.specs.Path.{Step}
use Rattle.cue_row.specs.declared.parts.RowParts.{RowParts as Row}
use Rattle.cue_table.specs.Slots as slots
use Rattle.cue_table.specs.Tree.{Tree, node, Children, none, child, Rest, no_rest, onward, fixed_of}
use Rattle.cue_codec.specs.declared.version.Version.{Version}
use Rattle.cue_codec.specs.declared.version.Version.TheVariants as versions

-- a step of a place, as bytes tell it: of the rest its number is not told, which is that of the row
-- above
pub data StateStep : Type 0 where
  at : Step → StateStep
  to_rest : StateStep

abbrev pub StatePath : Type 0
StatePath = List StateStep

pub record Entry : Type 0 where
  pub path : StatePath
  pub fixed : ℕ
  pub row : Row

-- an entry one step further from the root
abbrev pub one_step_below : StateStep → Entry → Entry
one_step_below step entry = record { path = step ∷ entry.path; fixed = entry.fixed; row = entry.row }

-- from which index on the elements are alike, as a version tells it: the first tells nothing of
-- this, and 0 stands for that
abbrev pub fixed_in : Version → Tree Row → ℕ
fixed_in versions.First tree = 0
fixed_in versions.Second tree = fixed_of tree

-- the rows of a table in a version, in the order of their places
abbrev mutual
  pub entries_of : Version → Tree Row → List Entry
  entries_of version (node row children rest) =
      map (λ r. record { path = []; fixed = fixed_in version (node row children rest); row = r })
      (option_to_list row)
      ++ (entries_below version children ++ entries_onward version rest)

  pub entries_below : Version → Children Row → List Entry
  entries_below version none = []
  entries_below version (child step tree children) =
      map (one_step_below (at step)) (entries_of version tree) ++ entries_below version children

  pub entries_onward : Version → Rest Row → List Entry
  entries_onward version no_rest = []
  entries_onward version (onward n tree) = map (one_step_below to_rest) (entries_of version tree)

-- the first version tells no rest
abbrev pub CanHoldStep : Version → StateStep → Type 0
CanHoldStep version (at step) = Unit {0}
CanHoldStep versions.First to_rest = ⊥
CanHoldStep versions.Second to_rest = Unit {0}

-- a version tells each step of each row of the table
abbrev pub CanHoldTable : Version → Tree Row → Type 0
CanHoldTable version tree =
    AllByRecursion (λ entry. AllByRecursion (CanHoldStep version) entry.path)
    (entries_of version tree)

-- a slot without its number
abbrev pub step_kind : slots.Slot → StateStep
step_kind (slots.at step) = at step
step_kind (slots.from n) = to_rest

abbrev pub path_of_place : slots.Place → StatePath
path_of_place = map step_kind

-- a row at its place, with its index
abbrev pub entry_at : slots.Place → ℕ → Row → Entry
entry_at place fixed row = record { path = path_of_place place; fixed = fixed; row = row }

-- the indexes of the rows of a table
abbrev pub indexes_of : Version → Tree Row → List ℕ
indexes_of version tree = map (λ entry. entry.fixed) (entries_of version tree)

-- a row with its place as bytes tell it
abbrev pub entry_of_row : slots.Place × Row → StatePath × Row
entry_of_row row = (path_of_place row.0, row.1)

-- an entry without its index
abbrev pub without_index : Entry → StatePath × Row
without_index entry = (entry.path, entry.row)
