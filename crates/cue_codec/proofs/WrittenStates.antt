-- The state bytes of a table, written by a walk over its branches.
use Rattle.std.proofs.Common.{◌≡◌, ℕ, ◌+◌, ◌≤◌, true, List, [], ◌∷◌, ◌++◌, length, Option, Some, None, refl, sym, ap, subst, ◌∙◌, arith}
use Rattle.std.specs.Prelude.{is_some}
use Rattle.std.specs.Int.{w64, to_be_bytes}
use Rattle.std.specs.List.{flat_map}
use Rattle.std.specs.Option.{option_map}
use Rattle.std.proofs.lemmas.List.{length-append}
use Rattle.std.proofs.lemmas.List.Concat.{flat_map-cons}
use Rattle.cue_row.specs.declared.parts.RowParts.{RowParts as Row}
use Rattle.cue_row.specs.Levels.{level_of}
use Rattle.cue_table.specs.Tree.{Tree, row_of}
use Rattle.cue_table.specs.Valid.{IsValidTable}
use Rattle.cue_table.specs.Inner.ValidWalk.{IsSound}
use Rattle.cue_table.proofs.ValidWalks.{valid_empty}
use Rattle.cue_table.proofs.Validity.{valid_walk}
use Rattle.cue_table.proofs.Depth.{depth_rows}
use Rattle.cue_table.specs.Depth.{tree_depth}
use Rattle.cue_table.specs.Form.{IsRowKept}
use Rattle.cue_row.specs.Row.{RefusesAsked, IsRow}
use Rattle.cue_lattice.specs.Limits.{step_limit}
use Rattle.cue_codec.specs.declared.version.Version.{Version}
use Rattle.cue_codec.specs.Entry.{Entry, entries_of}
use Rattle.cue_codec.specs.Parts.{step_bytes, path_bytes, counted_bytes}
use Rattle.cue_codec.specs.RowBytes.{row_part_bytes, parts_of_row, row_bytes, row_bytes_from}
use Rattle.cue_codec.specs.State.{state_mark, state_bytes, table_bytes}
use Rattle.cue_codec.specs.Version.{version_byte, written_version}

-- a row takes a byte at least
pub row_some : (version : Version) (row : Entry) → 1 ≤ length (row_bytes version row)
unfolding row_bytes path_bytes
row_some version row = omega arith

-- so there are no more rows than bytes
pub rows_few : (version : Version) (rows : List Entry) → length rows ≤ length (flat_map (row_bytes version) rows)
rows_few version [] = omega arith
rows_few version (row ∷ rows) =
    let some = row_some version row in
    let rest = rows_few version rows in
    omega (arith, ap length (flat_map-cons (row_bytes version) row rows), length-append (row_bytes version row) (flat_map (row_bytes version) rows))

-- a row from the root
row_from_root : (row : Entry) → row_bytes_from written_version 0 [] row ≡ row_bytes written_version row
unfolding row_bytes path_bytes row_bytes_from
row_from_root row =
    let count : 0 + length row.path ≡ length row.path = omega arith in
    ap (λ n. n ∷ (flat_map (step_bytes written_version) row.path ++ (level_of row.row.level ∷ row_part_bytes written_version (parts_of_row row.row row.fixed)))) count

pub rows_from_root : (rows : List Entry) → flat_map (row_bytes_from written_version 0 []) rows ≡ flat_map (row_bytes written_version) rows
rows_from_root [] = refl
rows_from_root (row ∷ rows) =
    flat_map-cons (row_bytes_from written_version 0 []) row rows ∙ ap (λ t. t ++ flat_map (row_bytes_from written_version 0 []) rows) (row_from_root row) ∙ ap (λ t. row_bytes written_version row ++ t) (rows_from_root rows) ∙ sym (flat_map-cons (row_bytes written_version) row rows)

-- a state in its parts
pub parts_of_state : (version : Version) (rows : List Entry) → state_bytes version rows ≡ state_mark ++ (version_byte version ∷ (to_be_bytes w64 (length rows) ++ flat_map (row_bytes version) rows))
unfolding state_bytes counted_bytes
parts_of_state version rows = refl

-- a state of the version that is written
pub state_parts : (rows : List Entry) → state_bytes written_version rows ≡ state_mark ++ (2 ∷ (to_be_bytes w64 (length rows) ++ flat_map (row_bytes written_version) rows))
state_parts rows = parts_of_state written_version rows

-- the head and the rows are the state, where 64 bits tell how many rows there are
pub state_begun :
    (tree : Tree Row) (count : ℕ) → count ≡ length (entries_of written_version tree)
    → (state_mark ++ (2 ∷ to_be_bytes w64 count)) ++ flat_map (row_bytes_from written_version 0 []) (entries_of written_version tree) ≡ table_bytes tree
state_begun tree count same =
    let rows = rows_from_root (entries_of written_version tree) in
    ap (λ t. state_mark ++ (2 ∷ (to_be_bytes w64 count ++ t))) rows ∙ ap (λ n. state_mark ++ (2 ∷ (to_be_bytes w64 n ++ flat_map (row_bytes written_version) (entries_of written_version tree)))) same ∙ sym (state_parts (entries_of written_version tree))

-- a valid table has no path that is too long
pub valid_deep : (tree : Tree Row) → IsValidTable tree → tree_depth tree ≤ step_limit
valid_deep tree h = depth_rows (IsRowKept RefusesAsked IsRow) step_limit tree h.form h.paths

pub valid_sound : (tree : Tree Row) (row : Row) → row_of tree ≡ Some row → IsValidTable tree → IsSound tree
valid_sound tree row e h = ((valid_walk tree row h.form (valid_deep tree h) e).1 h).1

map_some : {A B : Type 0} (f : A → B) (r : Option A) → is_some (option_map f r) ≡ is_some r
map_some f None = refl
map_some f (Some x) = refl

row_there : (tree : Tree Row) (row : Option Row) → row ≡ row_of tree → is_some row ≡ true → IsValidTable tree → IsSound tree
row_there tree None e some h = cc
row_there tree (Some row) e some h = valid_sound tree row (sym e) h

-- a valid table with a row at its root is right at each place
pub sound_root : {A : Type 0} (f : A → Row) (r : Option A) (tree root : Tree Row) → root ≡ tree → option_map f r ≡ row_of root → is_some r ≡ true → IsValidTable tree → IsSound root
sound_root f r tree root same e some h = row_there root (option_map f r) e (map_some f r ∙ some) (subst IsValidTable (sym same) h)

none_there : (tree : Tree Row) (row : Option Row) → row ≡ row_of tree → (is_some row ≡ true → ⊥) → IsValidTable tree → entries_of written_version tree ≡ []
none_there tree (Some row) e none h = absurd (none refl)
none_there tree None e none h = ap (entries_of written_version) (valid_empty tree (sym e) h)

-- a valid table with no row at its root has none
pub empty_root : {A : Type 0} (f : A → Row) (r : Option A) (tree root : Tree Row) → root ≡ tree → option_map f r ≡ row_of root → (is_some r ≡ true → ⊥) → IsValidTable tree → entries_of written_version tree ≡ []
empty_root f r tree root same e none h = none_there tree (option_map f r) (e ∙ ap row_of same) (λ some. none (sym (map_some f r) ∙ some)) h
