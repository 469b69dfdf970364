-- States read from their bytes: what is missing where they are refused.
use Rattle.std.proofs.Common.{◌≡◌, ℕ, ◌-◌, ◌^◌, ◌<◌, ◌≤◌, List, [], ◌∷◌, ◌++◌, append_assoc, length, map, get_or, drop, Some, None, ◌⊎◌, inl, inr, ⊎_elim, refl, sym, ap, subst, ◌∙◌, arith}
use Rattle.std.specs.Int.{w64, to_be_bytes}
use Rattle.std.specs.List.{flat_map, AllByRecursion}
use Rattle.std.proofs.lemmas.Bool.{cases_eq}
use Rattle.std.proofs.lemmas.List.{append-nil, length-append, length-map, map-append}
use Rattle.std.proofs.lemmas.List.Concat.{flat_map-cons}
use Rattle.cue_lattice.specs.declared.refusal.Kind.{Kind}
use Rattle.cue_lattice.specs.declared.refusal.Kind.TheVariants as kinds
use Rattle.cue_row.specs.declared.parts.RowParts.{RowParts as Row}
use Rattle.cue_row.specs.Row.{RefusesAsked, IsRow}
use Rattle.cue_table.specs.Tree.{Tree, empty}
use Rattle.cue_table.specs.Slots.{Place, rows_of}
use Rattle.cue_table.specs.Form.{IsRowKept, IsTable}
use Rattle.cue_table.specs.RowList.{BeginsNoTable}
use Rattle.cue_table.specs.Valid.{IsValidTable}
use Rattle.cue_table.proofs.Loosened.{loosened}
use Rattle.cue_table.proofs.RowLists.{same_lists}
use Rattle.cue_codec.specs.declared.version.Version.{Version}
use Rattle.cue_codec.specs.declared.version.Version.TheVariants as versions
use Rattle.cue_codec.specs.Entry.{StateStep, at, to_rest, Entry, entry_at, entries_of, indexes_of, CanHoldStep, CanHoldTable, step_kind, path_of_place, entry_of_row}
use Rattle.cue_codec.specs.Known.{place_with, known_with, known_after, rows_with, IsIndexKnown, no_indexes, AreRowsRead}
use Rattle.cue_codec.specs.Inner.Known.{AreDrafted}
use Rattle.cue_codec.specs.Reading.{ReadsItem, ReadsNoItem, IsReadRefused, number_at}
use Rattle.cue_codec.specs.RowBytes.{row_bytes, IsStateRow}
use Rattle.cue_codec.specs.StateRow.{IsStateStep}
use Rattle.cue_codec.specs.State.{state_mark, table_bytes_in, IsTableBytes}
use Rattle.cue_codec.specs.Version.{version_byte, IsNoVersion}
use Rattle.cue_codec.specs.Decoding.{IsOtherStateVersion, IsNoState, IsRejected, HasStateHead, IsUndecoded, AreReadRows, NoRows}
use Rattle.cue_codec.proofs.Codes.{OneItem, wide64, one_number, one_list, list_step, items_none, items_more, all_more}
use Rattle.cue_codec.proofs.EachItem.{all_weaker}
use Rattle.cue_codec.proofs.KnownPlaces.{entries_placed, place_kept, rows_more, after_more, rows_split}
use Rattle.cue_codec.proofs.Numbers.{IsBytes, IsBytes-rest, read64, number_takes, number_missing}
use Rattle.cue_codec.proofs.SameEntries.{same_entries, entries_told}
use Rattle.cue_codec.proofs.StateRows.{one_row}
use Rattle.cue_codec.proofs.StateSets.{heads, tails}
use Rattle.cue_codec.proofs.WrittenStates.{parts_of_state, rows_few}
use Rattle.cue_codec.proofs.ValidRows.{valid_rows, valid_places}

-- a row that is kept
abbrev Kept : Row → Type 0
Kept = IsRowKept RefusesAsked IsRow

-- ---- the head

same_after : (bytes a b : List ℕ) → bytes ≡ state_mark ++ a → bytes ≡ state_mark ++ b → a ≡ b
same_after bytes a b p q = ap (λ (t : List ℕ). drop 4 t) (sym p ∙ q)

IsBytes-marked : (bytes rest : List ℕ) → bytes ≡ state_mark ++ rest → IsBytes bytes → IsBytes rest
IsBytes-marked bytes rest e h =
    IsBytes-rest 69 (69 ∷ rest) rest refl (IsBytes-rest 85 (85 ∷ 69 ∷ rest) (69 ∷ rest) refl (IsBytes-rest 67 (67 ∷ 85 ∷ 69 ∷ rest) (85 ∷ 69 ∷ rest) refl (IsBytes-rest 254 bytes (67 ∷ 85 ∷ 69 ∷ rest) e h)))

pub known_version : (version : Version) (bytes rest : List ℕ) → bytes ≡ state_mark ++ (version_byte version ∷ rest) → IsOtherStateVersion bytes → ⊥
known_version version bytes rest e other =
    other.3 version (sym (heads (version_byte version) other.0 rest other.1 (same_after bytes (version_byte version ∷ rest) (other.0 ∷ other.1) e other.2)))

rejected : (bytes : List ℕ) → (IsOtherStateVersion bytes → ⊥) → IsNoState bytes → IsRejected bytes kinds.NotState
rejected bytes known none = inr (refl, known, none)

-- the bytes of a table, in their parts
table_parts : (bytes : List ℕ) (tree : Tree Row) (is : IsTableBytes bytes tree) → bytes ≡ state_mark ++ (version_byte is.0 ∷ (to_be_bytes w64 (length (entries_of is.0 tree)) ++ flat_map (row_bytes is.0) (entries_of is.0 tree)))
table_parts bytes tree is = sym is.2 ∙ parts_of_state is.0 (entries_of is.0 tree)

-- where the mark does not stand
pub headless_mark : (bytes : List ℕ) → ((rest : List ℕ) → bytes ≡ state_mark ++ rest → ⊥) → IsRejected bytes kinds.NotState
headless_mark bytes none =
    rejected bytes (λ other. none (other.0 ∷ other.1) other.2) (λ tree h is. none _ (table_parts bytes tree is))

-- where nothing stands after it
pub headless_end : (bytes rest : List ℕ) → bytes ≡ state_mark ++ rest → length rest ≡ 0 → IsRejected bytes kinds.NotState
headless_end bytes rest e none =
    let bad : (n : ℕ) (r : List ℕ) → bytes ≡ state_mark ++ (n ∷ r) → ⊥ = λ n r f. omega (arith, none, ap length (same_after bytes rest (n ∷ r) e f)) in
    rejected bytes (λ other. bad other.0 other.1 other.2) (λ tree h is. bad (version_byte is.0) _ (table_parts bytes tree is))

versioned : (version : Version) (bytes rest after : List ℕ) (byte : ℕ) → bytes ≡ state_mark ++ rest → rest ≡ byte ∷ after → version_byte version ≡ byte → bytes ≡ state_mark ++ (version_byte version ∷ after)
versioned version bytes rest after byte e is same = e ∙ ap (λ t. state_mark ++ t) (is ∙ ap (λ n. n ∷ after) (sym same))

-- the bytes of a table begin so
pub table_begins : (tree : Tree Row) (bytes : List ℕ) → IsTableBytes bytes tree → HasStateHead bytes
table_begins tree bytes is = (is.0, length (entries_of is.0 tree), flat_map (row_bytes is.0) (entries_of is.0 tree), table_parts bytes tree is)

-- where the count is cut
pub headless_begun : (version : Version) (bytes rest after : List ℕ) (byte : ℕ) → bytes ≡ state_mark ++ rest → rest ≡ byte ∷ after → version_byte version ≡ byte → None ≡ number_at w64 after → HasStateHead bytes → ⊥
headless_begun version bytes rest after byte e is same none begun =
    let whole = versioned version bytes rest after byte e is same in
    let same = tails (version_byte version) (version_byte begun.0) after _ (same_after bytes (version_byte version ∷ after) (version_byte begun.0 ∷ _) whole begun.3) in
    omega (arith, number_missing w64 after none, ap length same, length-append (to_be_bytes w64 begun.1) begun.2, wide64.len begun.1)

pub headless_count : (version : Version) (bytes rest after : List ℕ) (byte : ℕ) → bytes ≡ state_mark ++ rest → rest ≡ byte ∷ after → version_byte version ≡ byte → None ≡ number_at w64 after → IsRejected bytes kinds.NotState
headless_count version bytes rest after byte e is same none =
    rejected bytes (known_version version bytes after (versioned version bytes rest after byte e is same))
    (λ tree h f. headless_begun version bytes rest after byte e is same none (table_begins tree bytes f))

pub head_found : (version : Version) (bytes rest after end : List ℕ) (byte count : ℕ) → IsBytes bytes → bytes ≡ state_mark ++ rest → rest ≡ byte ∷ after → version_byte version ≡ byte → Some (count, end) ≡ number_at w64 after
    → bytes ≡ state_mark ++ (version_byte version ∷ (to_be_bytes w64 count ++ end))
head_found version bytes rest after end byte count fits e is same found =
    let whole = versioned version bytes rest after byte e is same in
    let numbers : IsBytes after = IsBytes-rest byte rest after is (IsBytes-marked bytes rest e fits) in
    whole ∙ ap (λ t. state_mark ++ (version_byte version ∷ t)) (number_takes w64 (2 ^ 64) read64 after count end numbers found).0

-- bytes that begin as those of a state are of a known version
pub begun_known : (bytes : List ℕ) → HasStateHead bytes → IsOtherStateVersion bytes → ⊥
begun_known bytes begun = known_version begun.0 bytes (to_be_bytes w64 begun.1 ++ begun.2) begun.3

marked : (a b c d : ℕ) (rest : List ℕ) → ((a ≡ 254) × (b ≡ 67) × (c ≡ 85) × (d ≡ 69)) ⊎ ((a ≡ 254) × (b ≡ 67) × (c ≡ 85) × (d ≡ 69) → ⊥)
marked a b c d rest =
    ⊎_elim
    (λ p. ⊎_elim
    (λ q. ⊎_elim
    (λ r. ⊎_elim (λ s. inl (p, q, r, s)) (λ s. inr (λ all. s all.3)) (cases_eq d 69))
    (λ r. inr (λ all. r all.2)) (cases_eq c 85))
    (λ q. inr (λ all. q all.1)) (cases_eq b 67))
    (λ p. inr (λ all. p all.0)) (cases_eq a 254)

byte_at : (bytes other : List ℕ) (i : ℕ) → bytes ≡ other → get_or bytes i 0 ≡ get_or other i 0
byte_at bytes other i e = ap (λ (t : List ℕ). get_or t i 0) e

no_version : (byte : ℕ) → (byte ≡ 1 → ⊥) → (byte ≡ 2 → ⊥) → IsNoVersion byte
no_version byte p q versions.First = p
no_version byte p q versions.Second = q

-- whether bytes are of another version is decided by the first five
other_or_not : (bytes : List ℕ) → IsOtherStateVersion bytes ⊎ (IsOtherStateVersion bytes → ⊥)
other_or_not (a ∷ b ∷ c ∷ d ∷ byte ∷ rest) =
    ⊎_elim
    (λ m. ⊎_elim
    (λ one. inr (λ other. other.3 versions.First (sym (byte_at (a ∷ b ∷ c ∷ d ∷ byte ∷ rest) (state_mark ++ (other.0 ∷ other.1)) 4 other.2) ∙ one)))
    (λ first. ⊎_elim
    (λ two. inr (λ other. other.3 versions.Second (sym (byte_at (a ∷ b ∷ c ∷ d ∷ byte ∷ rest) (state_mark ++ (other.0 ∷ other.1)) 4 other.2) ∙ two)))
    (λ second. inl (byte, rest, (λ i. m.0 i ∷ m.1 i ∷ m.2 i ∷ m.3 i ∷ byte ∷ rest), no_version byte first second)) (cases_eq byte 2))
    (cases_eq byte 1))
    (λ none. inr (λ other.
    let e = byte_at (a ∷ b ∷ c ∷ d ∷ byte ∷ rest) (state_mark ++ (other.0 ∷ other.1)) in
    none (e 0 other.2, e 1 other.2, e 2 other.2, e 3 other.2))) (marked a b c d rest)
other_or_not bytes = inr (λ other. let e = ap length other.2 in omega (arith, e))

-- bytes that do not begin as those of a state are refused with no memory
pub headless_fault : (bytes : List ℕ) → (HasStateHead bytes → ⊥) → (kind : Kind) × IsRejected bytes kind
headless_fault bytes none =
    ⊎_elim (λ other. (kinds.Version, inl (refl, other)))
    (λ known. (kinds.NotState, inr (refl, known, λ tree h is. none (table_begins tree bytes is)))) (other_or_not bytes)

-- ---- the rows

-- items that were read are the first of all that stand
items_first : {X : Type 0} (v : X → Type 0) (code : X → List ℕ) → OneItem v code → (xs ys : List X) (rest : List ℕ) → AllByRecursion v xs → AllByRecursion v ys → length xs ≤ length ys → flat_map code xs ++ rest ≡ flat_map code ys
    → (more : List X) × (ys ≡ xs ++ more)
items_first v code one [] ys rest p q n e = (ys, refl)
items_first v code one (x ∷ xs) [] rest p q n e = absurd (omega (arith, n))
items_first v code one (x ∷ xs) (y ∷ ys) rest p q n e =
    let first = one x y (flat_map code xs ++ rest) (flat_map code ys) p.0 q.0 (sym (list_step code x xs rest) ∙ e ∙ flat_map-cons code y ys) in
    let others = items_first v code one xs ys rest p.1 q.1 (omega (arith, n)) first.1 in
    (others.0, (λ i. sym first.0 i ∷ others.1 i))

-- where a row is missing, so many do not stand
pub rows_missing :
    (version : Version) (bytes rest : List ℕ) (count missing : ℕ) (rows : List (Place × Row)) (indexes known : List ℕ) → AreRowsRead version bytes rest count missing rows indexes known → 0 < missing → ReadsNoItem (IsStateRow version) (row_bytes version) rest → NoRows version count bytes
rows_missing version bytes rest count missing rows indexes known read some none tree r =
    items_none (IsStateRow version) (row_bytes version) (one_row version) count read.entries bytes rest read.each (omega (arith, some, read.counted)) read.parts none (entries_of version tree) [] (r.counted, r.rows) (r.parts ∙ sym (append-nil (flat_map (row_bytes version) (entries_of version tree))))

-- where bytes are left after them, these are no rows
pub rows_trailing :
    (version : Version) (bytes rest : List ℕ) (count : ℕ) (rows : List (Place × Row)) (indexes known : List ℕ) → AreRowsRead version bytes rest count 0 rows indexes known → (rest ≡ [] → ⊥) → NoRows version count bytes
rows_trailing version bytes rest count rows indexes known read some tree r =
    some (one_list (IsStateRow version) (row_bytes version) (one_row version) read.entries (entries_of version tree) rest [] read.each r.rows (omega (arith, read.counted, r.counted)) (sym read.parts ∙ r.parts ∙ sym (append-nil (flat_map (row_bytes version) (entries_of version tree))))).1

-- the row that was read stands behind the others at its place
rows_here : (entries : List Entry) (place : Place) (fixed : ℕ) (row : Row) (known : List ℕ) → known ≡ known_after no_indexes entries → IsIndexKnown known place → rows_with no_indexes (entries ++ entry_at place fixed row ∷ []) ≡ rows_with no_indexes entries ++ (place, row) ∷ []
rows_here entries place fixed row known after is =
    let entry : Entry = entry_at place fixed row in
    let here : place_with (known_after no_indexes entries) entry.path ≡ place = ap (λ k. place_with k entry.path) (sym after) ∙ sym is in
    rows_more no_indexes entries entry ∙ ap (λ p. rows_with no_indexes entries ++ (p, row) ∷ []) here

-- the rows of all that stand behind those that were read
rows_next :
    (entries more all : List Entry) (place : Place) (fixed : ℕ) (row : Row) (known : List ℕ) → known ≡ known_after no_indexes entries → IsIndexKnown known place → all ≡ (entries ++ entry_at place fixed row ∷ []) ++ more
    → (others : List (Place × Row)) × (rows_with no_indexes all ≡ rows_with no_indexes entries ++ (place, row) ∷ others)
rows_next entries more all place fixed row known after is e =
    let entry : Entry = entry_at place fixed row in
    let others = rows_with (known_after no_indexes (entries ++ entry ∷ [])) more in (
      others,
      ap (rows_with no_indexes) e
          ∙ rows_split no_indexes (entries ++ entry ∷ []) more
          ∙ ap (λ rows. rows ++ others) (rows_here entries place fixed row known after is)
          ∙ append_assoc (rows_with no_indexes entries) ((place, row) ∷ []) others,
    )

-- where no table's rows begin with the row behind the others, these are no rows
pub rows_unordered :
    (version : Version) (bytes rest after : List ℕ) (count missing : ℕ) (rows : List (Place × Row)) (indexes known : List ℕ) (place : Place) (fixed : ℕ) (row : Row)
    → AreRowsRead version bytes rest count missing rows indexes known → 0 < missing → ReadsItem (IsStateRow version) (row_bytes version) (entry_at place fixed row) rest after → IsIndexKnown known place
    → BeginsNoTable RefusesAsked IsRow (rows ++ (place, row) ∷ []) → NoRows version count bytes
rows_unordered version bytes rest after count missing rows indexes known place fixed row read some begins is none tree r =
    let entry : Entry = entry_at place fixed row in
    let whole = items_more (row_bytes version) read.entries entry bytes rest after read.parts begins.parts in
    let len = length-append read.entries (entry ∷ []) in
    let first = items_first (IsStateRow version) (row_bytes version) (one_row version) (read.entries ++ entry ∷ []) (entries_of version tree) after (all_more (IsStateRow version) read.entries entry read.each begins.value) r.rows (omega (arith, len, some, read.counted, r.counted)) (sym whole ∙ r.parts) in
    let next = rows_next read.entries first.0 (entries_of version tree) place fixed row known read.after is first.1 in
    let listed : rows_of tree ≡ rows ++ (place, row) ∷ next.0 = r.places ∙ next.1 ∙ ap (λ t. t ++ (place, row) ∷ next.0) (sym read.places) in
    none tree next.0 r.form (listed ∙ sym (append_assoc rows ((place, row) ∷ []) next.0))

-- one more row was read
pub rows_one_more :
    (version : Version) (bytes rest after : List ℕ) (count missing : ℕ) (rows new : List (Place × Row)) (indexes known : List ℕ) (place : Place) (fixed : ℕ) (row : Row)
    → AreRowsRead version bytes rest count missing rows indexes known → 0 < missing → ReadsItem (IsStateRow version) (row_bytes version) (entry_at place fixed row) rest after → IsIndexKnown known place
    → new ≡ rows ++ (place, row) ∷ [] → AreRowsRead version bytes after count (missing - 1) new (indexes ++ fixed ∷ []) (known_with known (length place) fixed)
rows_one_more version bytes rest after count missing rows new indexes known place fixed row read some begins is added =
    let entry : Entry = entry_at place fixed row in
    record {
      entries = read.entries ++ entry ∷ [];
      each = all_more (IsStateRow version) read.entries entry read.each begins.value;
      parts = items_more (row_bytes version) read.entries entry bytes rest after read.parts begins.parts;
      counted = omega (arith, length-append read.entries (entry ∷ []), read.counted, some);
      places = added ∙ ap (λ t. t ++ (place, row) ∷ []) read.places ∙ sym (rows_here read.entries place fixed row known read.after is);
      told = ap (λ t. t ++ fixed ∷ []) read.told ∙ sym (map-append (λ e. e.fixed) read.entries (entry ∷ []));
      after = ap (λ n. known_with known n fixed) (sym (length-map place step_kind)) ∙ ap (λ k. known_with k (length (path_of_place place)) fixed) read.after ∙ sym (after_more no_indexes read.entries entry);
    }

-- and its place has the numbers that are known then
pub known_next : (known : List ℕ) (place : Place) (fixed : ℕ) → IsIndexKnown known place → IsIndexKnown (known_with known (length place) fixed) place
known_next known place fixed is = is ∙ sym (place_kept known (path_of_place place) fixed) ∙ ap (λ n. place_with (known_with known n fixed) (path_of_place place)) (length-map place step_kind)

-- before the first row
pub rows_none : (version : Version) (bytes : List ℕ) (count : ℕ) → AreRowsRead version bytes bytes count count [] [] no_indexes
rows_none version bytes count = record { entries = []; each = tt; parts = refl; counted = omega arith; places = refl; told = refl; after = refl }

-- ---- the table of the rows

-- the rows that were read are those of each table that has the bytes
same_read : (version : Version) (bytes : List ℕ) (count : ℕ) (rows : List (Place × Row)) (indexes known : List ℕ) (tree : Tree Row) (read : AreRowsRead version bytes [] count 0 rows indexes known) → AreReadRows version count bytes tree → entries_of version tree ≡ read.entries
same_read version bytes count rows indexes known tree read r =
    (one_list (IsStateRow version) (row_bytes version) (one_row version) (entries_of version tree) read.entries [] [] r.rows read.each (omega (arith, r.counted, read.counted))
    (append-nil (flat_map (row_bytes version) (entries_of version tree)) ∙ sym r.parts ∙ read.parts)).0

same_places : (version : Version) (bytes : List ℕ) (count : ℕ) (rows : List (Place × Row)) (indexes known : List ℕ) (tree : Tree Row) → AreRowsRead version bytes [] count 0 rows indexes known → AreReadRows version count bytes tree → rows_of tree ≡ rows
same_places version bytes count rows indexes known tree read r = r.places ∙ ap (rows_with no_indexes) (same_read version bytes count rows indexes known tree read r) ∙ sym read.places

-- where no table has the rows
pub rows_unfinished : (version : Version) (bytes : List ℕ) (count : ℕ) (rows : List (Place × Row)) (indexes : List ℕ) → AreDrafted version bytes count rows indexes → ((table : Tree Row) → IsTable RefusesAsked IsRow table → rows_of table ≡ rows → ⊥) → NoRows version count bytes
rows_unfinished version bytes count rows indexes drafted none tree r = none tree r.form (same_places version bytes count rows indexes drafted.0 tree drafted.1 r)

-- where the table of the rows has other indexes
pub rows_untold : (version : Version) (bytes : List ℕ) (count : ℕ) (rows : List (Place × Row)) (indexes : List ℕ) (table : Tree Row) → AreDrafted version bytes count rows indexes → IsTable RefusesAsked IsRow table → rows_of table ≡ rows → (indexes ≡ indexes_of version table → ⊥)
    → NoRows version count bytes
rows_untold version bytes count rows indexes table drafted form is other tree r =
    let same : tree ≡ table = same_lists Kept tree table (loosened Kept tree r.form) (loosened Kept table form) (same_places version bytes count rows indexes drafted.0 tree drafted.1 r ∙ sym is) in
    other (drafted.1.told ∙ ap (map (λ e. e.fixed)) (sym (same_read version bytes count rows indexes drafted.0 tree drafted.1 r)) ∙ ap (indexes_of version) same)

-- the table of the rows, with their indexes
pub rows_finished : (version : Version) (bytes : List ℕ) (count : ℕ) (rows : List (Place × Row)) (indexes : List ℕ) (table : Tree Row) → AreDrafted version bytes count rows indexes → IsTable RefusesAsked IsRow table → rows_of table ≡ rows → indexes ≡ indexes_of version table
    → AreReadRows version count bytes table
rows_finished version bytes count rows indexes table drafted form is step_kind =
    let read = drafted.1 in
    let same : read.entries ≡ entries_of version table = same_entries read.entries (entries_of version table) (sym (entries_placed no_indexes read.entries) ∙ ap (map entry_of_row) (sym read.places ∙ sym is) ∙ sym (entries_told version table)) (sym read.told ∙ step_kind) in
    record {
      form = form;
      rows = subst (AllByRecursion (IsStateRow version)) same read.each;
      places = is ∙ read.places ∙ ap (rows_with no_indexes) same;
      counted = ap length (sym same) ∙ omega (arith, read.counted);
      parts = read.parts ∙ append-nil (flat_map (row_bytes version) read.entries) ∙ ap (flat_map (row_bytes version)) same;
    }

-- ---- the whole

same_version : (a b : Version) → version_byte a ≡ version_byte b → a ≡ b
same_version versions.First versions.First e = refl
same_version versions.First versions.Second e = absurd (omega (arith, e))
same_version versions.Second versions.First e = absurd (omega (arith, e))
same_version versions.Second versions.Second e = refl

-- bytes of a table in some version are its bytes in the one that they tell
in_version : (version : Version) (bytes rest : List ℕ) (tree : Tree Row) → bytes ≡ state_mark ++ (version_byte version ∷ rest) → IsTableBytes bytes tree → CanHoldTable version tree × (table_bytes_in version tree ≡ bytes)
in_version version bytes rest tree e is =
    let same = same_version is.0 version (heads (version_byte is.0) (version_byte version) _ rest (same_after bytes (version_byte is.0 ∷ _) (version_byte version ∷ rest) (table_parts bytes tree is) e)) in
    subst (λ (v : Version). CanHoldTable v tree × (table_bytes_in v tree ≡ bytes)) same (is.1, is.2)

-- the rows of a valid table with these bytes
pub valid_read :
    (version : Version) (bytes rest : List ℕ) (count : ℕ) (tree : Tree Row) → bytes ≡ state_mark ++ (version_byte version ∷ (to_be_bytes w64 count ++ rest)) → count < 2 ^ 64 → length bytes < 2 ^ 64 → IsValidTable tree
    → IsTableBytes bytes tree → AreReadRows version count rest tree
valid_read version bytes rest count tree e lt fits h has =
    let is = in_version version bytes (to_be_bytes w64 count ++ rest) tree e has in
    let rows : List Entry = entries_of version tree in
    let byte : ℕ = version_byte version in
    let these : List ℕ = flat_map (row_bytes version) rows in
    let same = tails byte byte (to_be_bytes w64 (length rows) ++ these) (to_be_bytes w64 count ++ rest)
    (same_after bytes (byte ∷ (to_be_bytes w64 (length rows) ++ these)) (byte ∷ (to_be_bytes w64 count ++ rest)) (sym is.1 ∙ parts_of_state version rows) e) in
    let sizes = ap length same in
    let few : length these < 2 ^ 64 = omega (arith, fits, ap length e, length-append state_mark (byte ∷ (to_be_bytes w64 count ++ rest)), length-append (to_be_bytes w64 count) rest, sizes, length-append (to_be_bytes w64 (length rows)) these, wide64.len (length rows), wide64.len count) in
    let split = one_number w64 (2 ^ 64) wide64 (length rows) count these rest (omega (arith, few, rows_few version rows)) lt same in
    record { form = h.form; rows = valid_rows version tree h is.0 few; places = valid_places version tree h is.0 no_indexes; counted = split.0; parts = sym split.1 }

-- the bytes of the table without rows have none behind the head
pub opening_rows :
    (version other : Version) (bytes rest : List ℕ) (count : ℕ) → bytes ≡ state_mark ++ (version_byte version ∷ (to_be_bytes w64 count ++ rest)) → count < 2 ^ 64 → bytes ≡ table_bytes_in other empty
    → (count ≡ 0) × (rest ≡ [])
opening_rows version other bytes rest count e lt is =
    let same = tails (version_byte version) (version_byte other) (to_be_bytes w64 count ++ rest) (to_be_bytes w64 0 ++ [])
    (same_after bytes (version_byte version ∷ (to_be_bytes w64 count ++ rest)) (version_byte other ∷ (to_be_bytes w64 0 ++ [])) e (is ∙ parts_of_state other [])) in
    one_number w64 (2 ^ 64) wide64 count 0 rest [] lt (omega arith) same

pub opening_begins : (version : Version) (bytes : List ℕ) → bytes ≡ table_bytes_in version empty → HasStateHead bytes
opening_begins version bytes is = (version, 0, [], is ∙ parts_of_state version [])

-- where none is behind the head, the bytes are those of that table
pub opening_bytes : (version : Version) (bytes rest : List ℕ) (count : ℕ) → bytes ≡ state_mark ++ (version_byte version ∷ (to_be_bytes w64 count ++ rest)) → (count ≡ 0) × (rest ≡ []) → IsTableBytes bytes empty
opening_bytes version bytes rest count e none = (version, tt, parts_of_state version [] ∙ (λ i. state_mark ++ (version_byte version ∷ (to_be_bytes w64 (sym none.0 i) ++ sym none.1 i))) ∙ sym e)

-- refusals of the head are refusals
pub undecoded_head : (bytes : List ℕ) (kind : Kind) → IsRejected bytes kind → IsUndecoded bytes kind
undecoded_head bytes kind h = inr h

-- so are those of the rows
pub undecoded_rows :
    (version : Version) (bytes rest : List ℕ) (count : ℕ) (kind : Kind) → bytes ≡ state_mark ++ (version_byte version ∷ (to_be_bytes w64 count ++ rest)) → count < 2 ^ 64 → length bytes < 2 ^ 64 → IsReadRefused kind (NoRows version count rest)
    → IsUndecoded bytes kind
undecoded_rows version bytes rest count kind e lt fits refused =
    ⊎_elim (λ memory. inl (memory, (version, count, rest, e)))
    (λ reason. inr (inr (reason.0, known_version version bytes (to_be_bytes w64 count ++ rest) e, λ tree h is. reason.1 tree (valid_read version bytes rest count tree e lt fits h is)))) refused

-- a valid table that has the bytes is the one whose rows were read
read_table :
    (version : Version) (bytes rest : List ℕ) (count : ℕ) (table tree : Tree Row) → bytes ≡ state_mark ++ (version_byte version ∷ (to_be_bytes w64 count ++ rest)) → count < 2 ^ 64 → length bytes < 2 ^ 64 → AreReadRows version count rest table
    → IsValidTable tree → IsTableBytes bytes tree → tree ≡ table
read_table version bytes rest count table tree e lt fits r h is =
    let other = valid_read version bytes rest count tree e lt fits h is in
    let rows = one_list (IsStateRow version) (row_bytes version) (one_row version) (entries_of version tree) (entries_of version table) [] [] other.rows r.rows (other.counted ∙ sym r.counted) (ap (λ t. t ++ []) (sym other.parts ∙ r.parts)) in
    same_lists Kept tree table (loosened Kept tree h.form) (loosened Kept table r.form) (other.places ∙ ap (rows_with no_indexes) rows.0 ∙ sym r.places)

-- where the rows that were read are no valid table, no valid table has the bytes
pub undecoded_table :
    (version : Version) (bytes rest : List ℕ) (count : ℕ) (table : Tree Row) → bytes ≡ state_mark ++ (version_byte version ∷ (to_be_bytes w64 count ++ rest)) → count < 2 ^ 64 → length bytes < 2 ^ 64 → AreReadRows version count rest table
    → (IsValidTable table → ⊥) → IsUndecoded bytes kinds.NotState
undecoded_table version bytes rest count table e lt fits r invalid =
    inr (rejected bytes (known_version version bytes (to_be_bytes w64 count ++ rest) e)
    (λ tree h is. invalid (subst IsValidTable (read_table version bytes rest count table tree e lt fits r h is) h)))

step_told : (version : Version) (step : StateStep) → IsStateStep version step → CanHoldStep version step
step_told version (at step) h = tt
step_told version to_rest h = h

-- the bytes of the table that was read
pub decoded_bytes : (version : Version) (bytes rest : List ℕ) (count : ℕ) (table : Tree Row) → bytes ≡ state_mark ++ (version_byte version ∷ (to_be_bytes w64 count ++ rest)) → AreReadRows version count rest table → IsTableBytes bytes table
decoded_bytes version bytes rest count table e r =
    let byte : ℕ = version_byte version in
    let rows : List Entry = entries_of version table in (
      version,
      all_weaker (IsStateRow version) (λ row. AllByRecursion (CanHoldStep version) row.path) rows (λ row h. all_weaker (IsStateStep version) (CanHoldStep version) row.path (step_told version) h.path.0) r.rows,
      parts_of_state version rows ∙ ap (λ n. state_mark ++ (byte ∷ (to_be_bytes w64 n ++ flat_map (row_bytes version) rows))) r.counted ∙ ap (λ t. state_mark ++ (byte ∷ (to_be_bytes w64 count ++ t))) (sym r.parts) ∙ sym e,
    )

-- no two valid tables share bytes
pub one_table : (a b : Tree Row) (bytes : List ℕ) → IsValidTable a → IsValidTable b → length bytes < 2 ^ 64 → IsTableBytes bytes a → IsTableBytes bytes b → a ≡ b
one_table a b bytes h k fits p q =
    let version = p.0 in
    let rows : List Entry = entries_of version a in
    let these : List ℕ = flat_map (row_bytes version) rows in
    let e = table_parts bytes a p in
    let few : length rows < 2 ^ 64 = omega (arith, fits, ap length e, length-append state_mark (version_byte version ∷ (to_be_bytes w64 (length rows) ++ these)), length-append (to_be_bytes w64 (length rows)) these, rows_few version rows) in
    let read = valid_read version bytes these (length rows) a e few fits h p in
    sym (read_table version bytes these (length rows) a b e few fits read k q)
