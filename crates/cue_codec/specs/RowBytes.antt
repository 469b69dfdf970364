-- The bytes of a row in a version: its path, its level, its kind, and what the kind leaves open.
use Rattle.std.specs.Prelude.{◌≡◌, ℕ, ◌+◌, Bool, true, false, not, ◌&&◌, List, [], ◌∷◌, ◌++◌}
use Rattle.std.specs.Prelude.{length, Option}
use Rattle.std.specs.List.{flat_map, AllByRecursion}
use Rattle.cue_lattice.specs.Bools.{is_nil}
use Rattle.cue_scalars.specs.declared.scalar_set.ScalarSet.{ScalarSet}
use Rattle.cue_row.specs.declared.level.Level.{Level}
use Rattle.cue_row.specs.declared.parts.RowParts.{RowParts as Row}
use Rattle.cue_row.specs.Levels.{level_of}
pub use Rattle.cue_row.specs.Made.{empty_set, full_set}
use Rattle.cue_row.specs.Made.{free_row, scalar_row, struct_row, list_row, nothing_row}
use Rattle.cue_codec.specs.declared.version.Version.{Version}
use Rattle.cue_codec.specs.Entry.{Entry}
use Rattle.cue_codec.specs.Parts.{Lengths, set_bytes, labels_bytes, lengths_bytes, step_bytes}
use Rattle.cue_codec.specs.Parts.{path_bytes}
use Rattle.cue_codec.specs.Reading.{ReadsItem, AreWideLengths, IsShort, AreShortLabels}
use Rattle.cue_codec.specs.StateRow.{IsStateSet, AreStateLabels, IsStatePath}

-- what a row says beside its level: anything may stand; some scalar, with the usual ones; a struct
-- with these labels; a list of these lengths; or nothing, where labels and lengths are left out
pub data RowPart : Type 0 where
  free : RowPart
  scalar : ScalarSet → ScalarSet → RowPart
  struct : Option (List (List ℕ)) → RowPart
  list : Lengths → RowPart
  nothing : Option (List (List ℕ)) → Lengths → RowPart

-- some scalar, and the usual ones
unfoldable pub scalars_bytes : ScalarSet × ScalarSet → List ℕ
scalars_bytes sets = set_bytes sets.0 ++ set_bytes sets.1

-- labels and lengths
unfoldable pub left_out_bytes : Version → Option (List (List ℕ)) × Lengths → List ℕ
left_out_bytes version parts = labels_bytes parts.0 ++ lengths_bytes version parts.1

-- the kind, and what it leaves open
unfoldable pub row_part_bytes : Version → RowPart → List ℕ
row_part_bytes version free = 0 ∷ []
row_part_bytes version (scalar value usual) = 1 ∷ scalars_bytes (value, usual)
row_part_bytes version (struct labels) = 2 ∷ labels_bytes labels
row_part_bytes version (list lengths) = 3 ∷ lengths_bytes version lengths
row_part_bytes version (nothing labels lengths) = 4 ∷ left_out_bytes version (labels, lengths)

-- whether a set has no member
abbrev pub is_no_scalar : ScalarSet → Bool
is_no_scalar set =
    not set.null
    && (not set.no && (not set.yes && (is_nil set.ints && (not set.texts.0 && is_nil set.texts.1))))

-- the kind, by whether a struct may stand, whether a list may, and whether no scalar may
abbrev pub parts_by : Bool → Bool → Bool → Row → ℕ → RowPart
parts_by true true is_empty row fixed = free
parts_by true false is_empty row fixed = struct row.labels
parts_by false true is_empty row fixed = list (row.least, row.most, fixed)
parts_by false false true row fixed = nothing row.labels (row.least, row.most, fixed)
parts_by false false false row fixed = scalar row.value row.usual

abbrev pub parts_of_row : Row → ℕ → RowPart
parts_of_row row fixed = parts_by row.struct_ok row.list_ok (is_no_scalar row.value) row fixed

-- from which index on the elements are alike: from 0 where there are none
abbrev pub fixed_by : RowPart → ℕ
fixed_by free = 0
fixed_by (scalar value usual) = 0
fixed_by (struct labels) = 0
fixed_by (list lengths) = lengths.2
fixed_by (nothing labels lengths) = lengths.2

-- the path, the level, and what else the row says
unfoldable pub row_bytes : Version → Entry → List ℕ
row_bytes version entry =
    path_bytes version entry.path
    ++ (level_of entry.row.level ∷ row_part_bytes version (parts_of_row entry.row entry.fixed))

-- the row of a kind that says no more than this
abbrev pub row_of_parts : Level → RowPart → Row
row_of_parts level free = free_row level
row_of_parts level (scalar value usual) = scalar_row level value usual
row_of_parts level (struct labels) = struct_row level labels
row_of_parts level (list lengths) = list_row level lengths.0 lengths.1
row_of_parts level (nothing labels lengths) = nothing_row level labels lengths.0 lengths.1

-- some scalar, and the usual ones
pub record AreScalarParts (sets : ScalarSet × ScalarSet) : Type 0 where
  pub some : is_no_scalar sets.0 ≡ false
  pub value : IsStateSet sets.0
  pub usual : IsStateSet sets.1

abbrev pub AreLeftOut : Version → Option (List (List ℕ)) × Lengths → Type 0
AreLeftOut version parts = AreStateLabels parts.0 × AreWideLengths version parts.1

abbrev pub IsStateParts : Version → RowPart → Type 0
IsStateParts version free = Unit {0}
IsStateParts version (scalar value usual) = AreScalarParts (value, usual)
IsStateParts version (struct labels) = AreStateLabels labels
IsStateParts version (list lengths) = AreWideLengths version lengths
IsStateParts version (nothing labels lengths) = AreLeftOut version (labels, lengths)

-- The path is one of the program, and the row and its index say no more than the bytes do.
pub record IsStateRow (version : Version) (entry : Entry) : Type 0 where
  pub path : IsStatePath version entry.path
  pub parts : IsStateParts version (parts_of_row entry.row entry.fixed)
  pub says : entry.row ≡ row_of_parts entry.row.level (parts_of_row entry.row entry.fixed)
  pub fixed : entry.fixed ≡ fixed_by (parts_of_row entry.row entry.fixed)

-- A part of a row was read, and the row of this level that says it was made, with its index.
pub record ReadsPart {X : Type 0} (made : X → RowPart) (is_value : X → Type 0) (code : X → List ℕ)
    (level : Level) (row : Row) (fixed : ℕ) (bytes rest : List ℕ) : Type 0 where
  pub item : X
  pub says : row ≡ row_of_parts level (made item)
  pub fixed_is : fixed ≡ fixed_by (made item)
  pub begins : ReadsItem is_value code item bytes rest

-- labels and texts are not too long to be written
pub record IsShortRow (row : Row) : Type 0 where
  pub labels : AreShortLabels row.labels
  pub value : AllByRecursion IsShort row.value.texts.1
  pub usual : AllByRecursion IsShort row.usual.texts.1

-- A row whose path goes on from a place that is so many steps from the root. These steps are the
-- bytes in front.
unfoldable pub row_bytes_from : Version → ℕ → List ℕ → Entry → List ℕ
row_bytes_from version depth steps entry =
    (depth + length entry.path)
    ∷ (steps
    ++ (flat_map (step_bytes version) entry.path
    ++ (level_of entry.row.level ∷ row_part_bytes version (parts_of_row entry.row entry.fixed))))
