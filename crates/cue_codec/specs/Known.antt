-- The places of rows that are read one after another: the number of a rest is that of the row above
-- it, which was read before.
use Rattle.std.specs.Prelude.{◌≡◌, ℕ, zero, suc, ◌+◌, List, [], ◌∷◌, ◌++◌, length, map, replicate}
use Rattle.std.specs.List.{flat_map, AllByRecursion}
use Rattle.cue_row.specs.declared.parts.RowParts.{RowParts as Row}
use Rattle.cue_table.specs.Slots as slots
use Rattle.cue_codec.specs.declared.version.Version.{Version}
use Rattle.cue_codec.specs.Entry.{StateStep, at, to_rest, StatePath, Entry, path_of_place}
use Rattle.cue_codec.specs.RowBytes.{row_bytes, IsStateRow}

-- the slot of a step below a row whose elements are alike from this index on
abbrev pub slot_with : ℕ → StateStep → slots.Slot
slot_with n (at step) = slots.at step
slot_with n to_rest = slots.from n

-- the place of a path, where the indexes of the rows above it are known, from the root on
abbrev pub place_with : List ℕ → StatePath → slots.Place
place_with known [] = []
place_with [] (step ∷ path) = slot_with 0 step ∷ place_with [] path
place_with (n ∷ known) (step ∷ path) = slot_with n step ∷ place_with known path

-- what is known after a row so many steps from the root
abbrev pub known_with : List ℕ → ℕ → ℕ → List ℕ
known_with [] zero fixed = fixed ∷ []
known_with (n ∷ known) zero fixed = fixed ∷ known
known_with [] (suc depth) fixed = 0 ∷ known_with [] depth fixed
known_with (n ∷ known) (suc depth) fixed = n ∷ known_with known depth fixed

-- what is known after rows
abbrev pub known_after : List ℕ → List Entry → List ℕ
known_after known [] = known
known_after known (entry ∷ entries) =
    known_after (known_with known (length entry.path) entry.fixed) entries

-- the rows at their places
abbrev pub rows_with : List ℕ → List Entry → List (slots.Place × Row)
rows_with known [] = []
rows_with known (entry ∷ entries) =
    (place_with known entry.path, entry.row)
    ∷ rows_with (known_with known (length entry.path) entry.fixed) entries

-- the rests of a place have the numbers that are known
abbrev pub IsIndexKnown : List ℕ → slots.Place → Type 0
IsIndexKnown known place = place ≡ place_with known (path_of_place place)

-- before the first row nothing is known
abbrev pub no_indexes : List ℕ
no_indexes = replicate 65 0

-- Rows were read from the front of bytes in a version, so many of all are missing: they stand at
-- these places, with these indexes, and this is known after them.
pub record AreRowsRead (version : Version) (bytes left : List ℕ) (count missing : ℕ)
    (rows : List (slots.Place × Row)) (indexes known : List ℕ) : Type 0 where
  pub entries : List Entry
  pub each : AllByRecursion (IsStateRow version) entries
  pub parts : bytes ≡ flat_map (row_bytes version) entries ++ left
  pub counted : length entries + missing ≡ count
  pub places : rows ≡ rows_with no_indexes entries
  pub told : indexes ≡ map (λ entry. entry.fixed) entries
  pub after : known ≡ known_after no_indexes entries
