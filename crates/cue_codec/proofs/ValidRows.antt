-- The rows of valid tables are rows that their bytes tell.
use Rattle.std.proofs.Common.{◌≡◌, ◌↔◌, ◌⊎◌, ⊎_elim, ℕ, zero, suc, ◌^◌, ◌<◌, ◌≤◌, ℤ, Bool, true, false, not, ◌&&◌, ◌||◌, List, [], ◌∷◌, ◌++◌, length, map, Option, Some, None, refl, sym, ap, subst, ◌∙◌, arith}
use Rattle.std.specs.Int.{w64, to_be_bytes}
use Rattle.std.specs.List.{flat_map, AllByRecursion}
use Rattle.std.proofs.lemmas.Bool.{false≢true}
use Rattle.std.proofs.lemmas.Int.{ints}
use Rattle.std.proofs.lemmas.List.{length-append}
use Rattle.std.proofs.lemmas.List.Concat.{flat_map-cons}
use Rattle.cue_lattice.specs.Bools.{is_nil}
use Rattle.cue_lattice.specs.Limits.{step_limit}
use Rattle.cue_lattice.specs.Path.{label, index}
use Rattle.cue_lattice.specs.declared.scalar.Scalar.{Scalar}
use Rattle.cue_lattice.specs.declared.scalar.Scalar.TheVariants as scalars
use Rattle.cue_sets.specs.Pieces as pieces
use Rattle.cue_sets.specs.PieceLaws.{is_within-inside}
use Rattle.cue_sets.specs.Texts.{IsAscending}
use Rattle.cue_scalars.specs.declared.scalar_set.ScalarSet.{ScalarSet}
use Rattle.cue_scalars.specs.Scalars.{RefusesScalar, IsScalarSet}
use Rattle.cue_scalars.specs.ScalarLaws.{same_scalars}
use Rattle.cue_row.specs.declared.parts.RowParts.{RowParts as Row}
use Rattle.cue_row.specs.declared.kind.RowKind.{RowKind}
use Rattle.cue_row.specs.declared.kind.RowKind.TheVariants as kinds
use Rattle.cue_row.specs.Levels.{level_of}
use Rattle.cue_row.specs.LabelSets.{AreLabels}
use Rattle.cue_row.specs.Row.{RefusesAsked, IsRow}
use Rattle.cue_row.specs.Kinds.{IsEmptySet, IsFullSet, IsRowKind}
use Rattle.cue_row.specs.ValidRow.{IsWordStep, UsualFits, LabelsFit, LengthsFit, AreLengths, AreWords, AreLabelWords, HasWords, IsValidRow}
use Rattle.cue_table.specs.Tree.{Tree, node, Children, none, child, Rest, no_rest, onward, row_of, behind_last, fixed_with, fixed_of}
use Rattle.cue_table.specs.Slots.{rows_of}
use Rattle.cue_table.specs.Form.{AreWithinDepth, IsTree, AreBranches, IsRestOf, IsRowKept}
use Rattle.cue_table.specs.Depth.{tree_depth, children_depth, rest_depth}
use Rattle.cue_table.specs.Valid.{IsValidTable}
use Rattle.cue_table.specs.Inner.ValidWalk.{IsSound, AreSound, IsRestSound, HasChild, HasElement}
use Rattle.cue_table.proofs.Exact.{within_last}
use Rattle.cue_table.proofs.ValidWalks.{valid_empty}
use Rattle.cue_codec.specs.declared.version.Version.{Version}
use Rattle.cue_codec.specs.declared.version.Version.TheVariants as versions
use Rattle.cue_codec.specs.Entry.{StateStep, at, to_rest, Entry, one_step_below, fixed_in, entries_of, entries_below, entries_onward, CanHoldStep, CanHoldTable}
use Rattle.cue_codec.specs.Known.{rows_with}
use Rattle.cue_codec.specs.Parts.{Lengths, counted_bytes, piece_bytes, text_bytes, text_set_bytes, set_bytes, labels_bytes, lengths_bytes, path_bytes}
use Rattle.cue_codec.specs.Reading.{IsIndex, AreWideLengths}
use Rattle.cue_codec.specs.StateRow.{AreStateTexts, IsStateSet, AreStateLabels, IsStateStep, IsStatePath}
use Rattle.cue_codec.specs.RowBytes.{RowPart, free, scalar, struct, list, nothing, scalars_bytes, left_out_bytes, row_part_bytes, is_no_scalar, parts_by, parts_of_row, fixed_by, row_bytes, empty_set, full_set, row_of_parts as made_row, IsStateParts, IsStateRow}
use Rattle.cue_codec.specs.KindBytes.{kind_bytes, AreBytesOfKinds}
use Rattle.cue_codec.proofs.EachItem.{all_append, all_map, all_weaker, all_both}
use Rattle.cue_codec.proofs.Numbers.{length-piece_bytes, text_some}
use Rattle.cue_codec.proofs.ValidPlaces.{IsToldRow, rows_are}
use Rattle.cue_codec.proofs.WrittenRows.{sound_fixed}
use Rattle.cue_codec.proofs.WrittenStates.{valid_deep, valid_sound}

-- ---- sets without and with all members

refused_by_none : (v : ScalarSet) → IsEmptySet v → (q : Scalar) → RefusesScalar v q ↔ RefusesScalar empty_set q
refused_by_none v e scalars.Null = (λ r. refl, λ r. e scalars.Null)
refused_by_none v e (scalars.Bool false) = (λ r. refl, λ r. e (scalars.Bool false))
refused_by_none v e (scalars.Bool true) = (λ r. refl, λ r. e (scalars.Bool true))
refused_by_none v e (scalars.Int n) = (λ r. (r.0, refl), λ r. (r.0, e (scalars.Int n)))
refused_by_none v e (scalars.Text text) = (λ r. refl, λ r. e (scalars.Text text))

empty_is : (v : ScalarSet) → IsScalarSet v → IsEmptySet v → v ≡ empty_set
empty_is v h e = same_scalars v empty_set h (record { ints = tt; texts = tt }) (refused_by_none v e)

full_refuses : (q : Scalar) → RefusesScalar full_set q → ⊥
full_refuses scalars.Null r = cc
full_refuses (scalars.Bool false) r = cc
full_refuses (scalars.Bool true) r = cc
full_refuses (scalars.Int n) r = false≢true (sym r.1 ∙ ap (λ b. b || false) (is_within-inside (pieces.least, pieces.greatest) n r.0.0 r.0.1))
full_refuses (scalars.Text text) r = cc

full_is : (v : ScalarSet) → IsScalarSet v → IsFullSet v → v ≡ full_set
full_is v h f =
    same_scalars v full_set h (record { ints = (omega (arith, ints), omega (arith, ints), omega (arith, ints), tt); texts = tt }) (λ q. (λ r. absurd (f q r), λ r. absurd (full_refuses q r)))

none_in_empty : IsEmptySet empty_set
none_in_empty scalars.Null = refl
none_in_empty (scalars.Bool false) = refl
none_in_empty (scalars.Bool true) = refl
none_in_empty (scalars.Int n) = refl
none_in_empty (scalars.Text text) = refl

both_true : (a b : Bool) → (a && b) ≡ true → (a ≡ true) × (b ≡ true)
both_true true b e = (refl, e)
both_true false b e = absurd (false≢true e)

not_true : (a : Bool) → not a ≡ true → a ≡ false
not_true true e = sym e
not_true false e = refl

nil_true : {X : Type 0} (xs : List X) → is_nil xs ≡ true → xs ≡ []
nil_true [] e = refl
nil_true (x ∷ xs) e = absurd (false≢true e)

empty_by_test : (v : ScalarSet) → is_no_scalar v ≡ true → v ≡ empty_set
empty_by_test v e =
    let a = both_true (not v.null) (not v.no && (not v.yes && (is_nil v.ints && (not v.texts.0 && is_nil v.texts.1)))) e in
    let b = both_true (not v.no) (not v.yes && (is_nil v.ints && (not v.texts.0 && is_nil v.texts.1))) a.1 in
    let c = both_true (not v.yes) (is_nil v.ints && (not v.texts.0 && is_nil v.texts.1)) b.1 in
    let d = both_true (is_nil v.ints) (not v.texts.0 && is_nil v.texts.1) c.1 in
    let f = both_true (not v.texts.0) (is_nil v.texts.1) d.1 in
    let null = not_true v.null a.0 in
    let no = not_true v.no b.0 in
    let yes = not_true v.yes c.0 in
    let integers = nil_true v.ints d.0 in
    let all_but = not_true v.texts.0 f.0 in
    let texts = nil_true v.texts.1 f.1 in
    λ i. record { null = null i; no = no i; yes = yes i; ints = integers i; texts = (all_but i, texts i) }

some_by_test : (v : ScalarSet) → (IsEmptySet v → ⊥) → is_no_scalar v ≡ false
some_by_test v some = by (is_no_scalar v) refl
  where
    by : (b : Bool) → is_no_scalar v ≡ b → b ≡ false
    by false e = refl
    by true e = absurd (some (subst IsEmptySet (sym (empty_by_test v e)) none_in_empty))

-- ---- lists that their bytes count

few_items : {X : Type 0} (code : X → List ℕ) → ((x : X) → 1 ≤ length (code x)) → (xs : List X) → length xs ≤ length (flat_map code xs)
few_items code some [] = omega arith
few_items code some (x ∷ xs) = omega (arith, some x, few_items code some xs, ap length (flat_map-cons code x xs), length-append (code x) (flat_map code xs))

few_counted : {X : Type 0} (code : X → List ℕ) → ((x : X) → 1 ≤ length (code x)) → (xs : List X) → length xs ≤ length (counted_bytes code xs)
unfolding counted_bytes
few_counted code some xs = omega (arith, few_items code some xs, length-append (to_be_bytes w64 (length xs)) (flat_map code xs))

few_texts : (texts : List (List ℕ)) → length texts ≤ length (counted_bytes text_bytes texts)
few_texts texts = few_counted text_bytes text_some texts

few_pieces : (all : List (ℤ × ℤ)) → length all ≤ length (counted_bytes piece_bytes all)
few_pieces all = few_counted piece_bytes (λ p. omega (arith, length-piece_bytes p)) all

state_texts : (texts : List (List ℕ)) → IsAscending texts → AreWords texts → length (counted_bytes text_bytes texts) < 2 ^ 64 → AreStateTexts texts
state_texts texts ascending words fits = (ascending, (words, omega (arith, few_texts texts, fits)))

set_parts_fit : (set : ScalarSet) → length (set_bytes set) < 2 ^ 64 → (length (counted_bytes piece_bytes set.ints) < 2 ^ 64) × (length (counted_bytes text_bytes set.texts.1) < 2 ^ 64)
unfolding set_bytes text_set_bytes
set_parts_fit set fits = (
  omega (arith, fits, length-append (counted_bytes piece_bytes set.ints) (text_set_bytes set.texts)),
  omega (arith, fits, length-append (counted_bytes piece_bytes set.ints) (text_set_bytes set.texts)),
)

state_set : (set : ScalarSet) → IsScalarSet set → AreWords set.texts.1 → length (set_bytes set) < 2 ^ 64 → IsStateSet set
state_set set h words fits =
    let parts = set_parts_fit set fits in
    record { ints = (h.ints, omega (arith, few_pieces set.ints, parts.0)); texts = state_texts set.texts.1 h.texts words parts.1 }

state_labels : (labels : Option (List (List ℕ))) → AreLabels labels → AreLabelWords labels → length (labels_bytes labels) < 2 ^ 64 → AreStateLabels labels
unfolding labels_bytes
state_labels None h words fits = tt
state_labels (Some labels) h words fits = state_texts labels h words (omega (arith, fits))

wide_lengths : (version : Version) (least : ℕ) (most : Option ℕ) (fixed : ℕ) → AreLengths least most → IsIndex version fixed → AreWideLengths version (least, most, fixed)
wide_lengths version least None fixed h i = (omega (arith, h), tt, i)
wide_lengths version least (Some most) fixed h i = let a = h.0 in let b = h.1 in (omega arith, omega arith, i)

-- ---- the kinds

row_is :
    (row : Row) (value usual : ScalarSet) (struct_ok list_ok : Bool) (labels : Option (List (List ℕ))) (least : ℕ) (most : Option ℕ)
    → row.value ≡ value → row.usual ≡ usual → row.struct_ok ≡ struct_ok → row.list_ok ≡ list_ok → row.labels ≡ labels → row.least ≡ least → row.most ≡ most
    → row ≡ record { level = row.level; value = value; usual = usual; struct_ok = struct_ok; list_ok = list_ok; labels = labels; least = least; most = most }
row_is row value usual struct_ok list_ok labels least most v u s l n a m =
    λ i. record { level = row.level; value = v i; usual = u i; struct_ok = s i; list_ok = l i; labels = n i; least = a i; most = m i }

-- the row and the index say just these parts, and their bytes tell them
abbrev IsTold : (version : Version) → Row → ℕ → RowPart → Type 0
IsTold version row fixed parts = IsStateParts version parts × (row ≡ made_row row.level parts) × (fixed ≡ fixed_by parts)

told_as : (version : Version) (row : Row) (fixed : ℕ) (parts : RowPart) → parts_of_row row fixed ≡ parts → (length (row_part_bytes version parts) < 2 ^ 64 → IsTold version row fixed parts) → length (row_part_bytes version (parts_of_row row fixed)) < 2 ^ 64 → IsTold version row fixed (parts_of_row row fixed)
told_as version row fixed parts e h fits = subst (IsTold version row fixed) (sym e) (h (subst (λ p. length (row_part_bytes version p) < 2 ^ 64) e fits))

parts_are : (row : Row) (fixed : ℕ) (s l b : Bool) → row.struct_ok ≡ s → row.list_ok ≡ l → is_no_scalar row.value ≡ b → parts_of_row row fixed ≡ parts_by s l b row fixed
parts_are row fixed s l b es el eb = λ i. parts_by (es i) (el i) (eb i) row fixed

-- what a row of a kind says
abbrev said : RowKind → Row → ℕ → RowPart
said kinds.Free row fixed = free
said kinds.Scalar row fixed = scalar row.value row.usual
said kinds.Struct row fixed = struct row.labels
said kinds.List row fixed = list (row.least, row.most, fixed)
said kinds.Nothing row fixed = nothing row.labels (row.least, row.most, fixed)

kind_parts : (row : Row) (fixed : ℕ) (kind : RowKind) → IsRow row → IsRowKind row kind → parts_of_row row fixed ≡ said kind row fixed
kind_parts row fixed kinds.Free form is = parts_are row fixed true true (is_no_scalar row.value) is.1 is.2 refl
kind_parts row fixed kinds.Scalar form is = parts_are row fixed false false false is.1 is.2 (some_by_test row.value is.0)
kind_parts row fixed kinds.Struct form is = parts_are row fixed true false (is_no_scalar row.value) is.1 is.2 refl
kind_parts row fixed kinds.List form is = parts_are row fixed false true (is_no_scalar row.value) is.1 is.2 refl
kind_parts row fixed kinds.Nothing form is = parts_are row fixed false false true is.1 is.2 (ap is_no_scalar (empty_is row.value form.value is.0))

said_bytes : (version : Version) (kind : RowKind) (row : Row) (fixed : ℕ) → row_part_bytes version (said kind row fixed) ≡ kind_bytes version kind row fixed
unfolding row_part_bytes scalars_bytes left_out_bytes
said_bytes version kinds.Free row fixed = refl
said_bytes version kinds.Scalar row fixed = refl
said_bytes version kinds.Struct row fixed = refl
said_bytes version kinds.List row fixed = refl
said_bytes version kinds.Nothing row fixed = refl

-- a row of a kind has the bytes of its kind
pub bytes_of_kinds : AreBytesOfKinds
unfolding row_bytes
bytes_of_kinds version entry kind form is =
    ap (λ (b : List ℕ). path_bytes version entry.path ++ (level_of entry.row.level ∷ b)) (ap (λ (p : RowPart). row_part_bytes version p) (kind_parts entry.row entry.fixed kind form is) ∙ said_bytes version kind entry.row entry.fixed)

-- what is known of a valid row
record Facts (version : Version) (row : Row) (fixed : ℕ) (kind : RowKind) : Type 0 where
  form : IsRow row
  is_kind : IsRowKind row kind
  usual : UsualFits row kind
  labels : LabelsFit row kind
  lengths : LengthsFit row kind
  limits : AreLengths row.least row.most
  words : HasWords row
  index : IsIndex version fixed
  elements : fixed ≡ fixed_by (said kind row fixed)

scalars_fit : (version : Version) (value usual : ScalarSet) → length (row_part_bytes version (scalar value usual)) < 2 ^ 64 → (length (set_bytes value) < 2 ^ 64) × (length (set_bytes usual) < 2 ^ 64)
unfolding row_part_bytes scalars_bytes
scalars_fit version value usual fits = (omega (arith, fits, length-append (set_bytes value) (set_bytes usual)), omega (arith, fits, length-append (set_bytes value) (set_bytes usual)))

struct_fits : (version : Version) (labels : Option (List (List ℕ))) → length (row_part_bytes version (struct labels)) < 2 ^ 64 → length (labels_bytes labels) < 2 ^ 64
unfolding row_part_bytes
struct_fits version labels fits = omega (arith, fits)

nothing_fits : (version : Version) (labels : Option (List (List ℕ))) (lengths : Lengths) → length (row_part_bytes version (nothing labels lengths)) < 2 ^ 64 → length (labels_bytes labels) < 2 ^ 64
unfolding row_part_bytes left_out_bytes
nothing_fits version labels lengths fits = omega (arith, fits, length-append (labels_bytes labels) (lengths_bytes version lengths))

told : (version : Version) (row : Row) (fixed : ℕ) (kind : RowKind) → Facts version row fixed kind → length (row_part_bytes version (parts_of_row row fixed)) < 2 ^ 64 → IsTold version row fixed (parts_of_row row fixed)
told version row fixed kinds.Free f =
    let value = full_is row.value f.form.value f.is_kind.0 in
    let usual = full_is row.usual f.form.usual f.usual in
    told_as version row fixed free (parts_are row fixed true true (is_no_scalar row.value) f.is_kind.1 f.is_kind.2 refl)
    (λ fits. (tt, row_is row full_set full_set true true None 0 None value usual f.is_kind.1 f.is_kind.2 f.labels f.lengths.0 f.lengths.1, f.elements))
told version row fixed kinds.Scalar f =
    let some = some_by_test row.value f.is_kind.0 in
    told_as version row fixed (scalar row.value row.usual) (parts_are row fixed false false false f.is_kind.1 f.is_kind.2 some)
    (λ fits.
    let parts = scalars_fit version row.value row.usual fits in (
      record { some = some; value = state_set row.value f.form.value f.words.value parts.0; usual = state_set row.usual f.form.usual f.words.usual parts.1 },
      row_is row row.value row.usual false false None 0 None refl refl f.is_kind.1 f.is_kind.2 f.labels f.lengths.0 f.lengths.1,
      f.elements,
    ))
told version row fixed kinds.Struct f =
    let value = empty_is row.value f.form.value f.is_kind.0 in
    let usual = empty_is row.usual f.form.usual f.usual in
    told_as version row fixed (struct row.labels) (parts_are row fixed true false (is_no_scalar row.value) f.is_kind.1 f.is_kind.2 refl)
    (λ fits. (state_labels row.labels f.form.labels f.words.labels (struct_fits version row.labels fits), row_is row empty_set empty_set true false row.labels 0 None value usual f.is_kind.1 f.is_kind.2 refl f.lengths.0 f.lengths.1, f.elements))
told version row fixed kinds.List f =
    let value = empty_is row.value f.form.value f.is_kind.0 in
    let usual = empty_is row.usual f.form.usual f.usual in
    told_as version row fixed (list (row.least, row.most, fixed)) (parts_are row fixed false true (is_no_scalar row.value) f.is_kind.1 f.is_kind.2 refl)
    (λ fits. (wide_lengths version row.least row.most fixed f.limits f.index, row_is row empty_set empty_set false true None row.least row.most value usual f.is_kind.1 f.is_kind.2 f.labels refl refl, f.elements))
told version row fixed kinds.Nothing f =
    let value = empty_is row.value f.form.value f.is_kind.0 in
    let usual = empty_is row.usual f.form.usual f.usual in
    told_as version row fixed (nothing row.labels (row.least, row.most, fixed)) (parts_are row fixed false false true f.is_kind.1 f.is_kind.2 (ap is_no_scalar value))
    (λ fits. (
      (state_labels row.labels f.form.labels f.words.labels (nothing_fits version row.labels (row.least, row.most, fixed) fits), wide_lengths version row.least row.most fixed f.limits f.index),
      row_is row empty_set empty_set false false row.labels row.least row.most value usual f.is_kind.1 f.is_kind.2 refl refl refl,
      f.elements,
    ))

parts_fit : (version : Version) (row : Entry) → length (row_bytes version row) < 2 ^ 64 → length (row_part_bytes version (parts_of_row row.row row.fixed)) < 2 ^ 64
unfolding row_bytes
parts_fit version row fits = omega (arith, fits, length-append (path_bytes version row.path) (level_of row.row.level ∷ row_part_bytes version (parts_of_row row.row row.fixed)))

-- A row of a valid table: valid, in form, on a path that bytes tell. Its index is of 32 bits, and 0
-- where it has no elements.
record IsPlaced (version : Version) (row : Entry) : Type 0 where
  steps : AllByRecursion (IsStateStep versions.Second) row.path
  form : IsRow row.row
  valid : IsValidRow row.row
  index : IsIndex version row.fixed
  elements : row.fixed ≡ fixed_by (said valid.kind row.row row.fixed)

-- a valid row in form is told by its bytes
state_row : (version : Version) (row : Entry) → IsPlaced version row → IsStatePath version row.path → length (row_bytes version row) < 2 ^ 64 → IsStateRow version row
state_row version row h path fits =
    let valid = h.valid in
    let all = told version row.row row.fixed valid.kind (record { form = h.form; is_kind = valid.is_kind; usual = valid.usual; labels = valid.labels; lengths = valid.row_lengths; limits = valid.limits; words = valid.texts; index = h.index; elements = h.elements }) (parts_fit version row fits) in
    record { path = path; parts = all.0; says = all.1; fixed = all.2 }

-- ---- elements

-- a row that is neither a list nor nothing
abbrev HoldsNone : Row → Type 0
HoldsNone row = (IsRowKind row kinds.List ⊎ IsRowKind row kinds.Nothing) → ⊥

no_own : (parent : Row) (children : Children Row) → HoldsNone parent → AreSound parent children → behind_last children ≡ 0
no_own parent none bar h = refl
no_own parent (child (label text) tree children) bar h = no_own parent children bar h.2
no_own parent (child (index n) tree children) bar h = absurd (bar (held parent n (row_of tree) h.0))
  where
    held : (r : Row) (i : ℕ) (row : Option Row) → HasChild r (index i) row → IsRowKind r kinds.List ⊎ IsRowKind r kinds.Nothing
    held r i None k = absurd k
    held r i (Some row) k = k.holds

no_elements : (parent : Row) (children : Children Row) (rest : Rest Row) → HoldsNone parent → AreSound parent children → IsRestSound parent rest → fixed_with rest children ≡ 0
no_elements parent children no_rest bar h k = no_own parent children bar h
no_elements parent children (onward n tree) bar h k = absurd (bar (held parent (row_of tree) k.0))
  where
    held : (r : Row) (row : Option Row) → HasElement r row → IsRowKind r kinds.List ⊎ IsRowKind r kinds.Nothing
    held r None k = absurd k
    held r (Some row) k = k.holds

same_bools : (b : Bool) → b ≡ true → b ≡ false → ⊥
same_bools b e f = false≢true (sym f ∙ e)

elements_in : (row : Row) (kind : RowKind) (children : Children Row) (rest : Rest Row) → IsRowKind row kind → AreSound row children → IsRestSound row rest → fixed_with rest children ≡ fixed_by (said kind row (fixed_with rest children))
elements_in row kinds.Free children rest is h k = no_elements row children rest (λ some. ⊎_elim (λ l. same_bools row.struct_ok is.1 l.1) (λ n. same_bools row.struct_ok is.1 n.1) some) h k
elements_in row kinds.Scalar children rest is h k = no_elements row children rest (λ some. ⊎_elim (λ l. same_bools row.list_ok l.2 is.2) (λ n. is.0 n.0) some) h k
elements_in row kinds.Struct children rest is h k = no_elements row children rest (λ some. ⊎_elim (λ l. same_bools row.struct_ok is.1 l.1) (λ n. same_bools row.struct_ok is.1 n.1) some) h k
elements_in row kinds.List children rest is h k = refl
elements_in row kinds.Nothing children rest is h k = refl

told_elements : (version : Version) (row : Row) (kind : RowKind) (children : Children Row) (rest : Rest Row) → IsRowKind row kind → AreSound row children → IsRestSound row rest
    → fixed_in version (node (Some row) children rest) ≡ fixed_by (said kind row (fixed_in version (node (Some row) children rest)))
told_elements versions.Second row kind children rest is h k = elements_in row kind children rest is h k
told_elements versions.First row kinds.Free children rest is h k = refl
told_elements versions.First row kinds.Scalar children rest is h k = refl
told_elements versions.First row kinds.Struct children rest is h k = refl
told_elements versions.First row kinds.List children rest is h k = refl
told_elements versions.First row kinds.Nothing children rest is h k = refl

told_index : (version : Version) (tree : Tree Row) → fixed_of tree < 2 ^ 32 → IsIndex version (fixed_in version tree)
told_index versions.First tree h = refl
told_index versions.Second tree h = h

-- ---- the rows of a table

-- the elements of their own stand before the index from which on they are alike
own_within : (P : Row → Type 0) (children : Children Row) (rest : Rest Row) → IsRestOf P children rest → AreWithinDepth (fixed_with rest children) children
own_within P children no_rest h = within_last (behind_last children) children (omega arith)
own_within P children (onward n tree) h = h.0

abbrev AllKept : Row → Type 0
AllKept = IsRowKept RefusesAsked IsRow

step_behind : (version : Version) (step : StateStep) (rows : List Entry) → IsStateStep versions.Second step → AllByRecursion (IsPlaced version) rows → AllByRecursion (IsPlaced version) (map (one_step_below step) rows)
step_behind version step rows here h =
    all_map (one_step_below step) (IsPlaced version) rows
    (all_weaker (IsPlaced version) (λ row. IsPlaced version (one_step_below step row)) rows (λ row p. record { steps = (here, p.steps); form = p.form; valid = p.valid; index = p.index; elements = p.elements }) h)

mutual
  placed : (version : Version) (tree : Tree Row) → IsTree AllKept tree → IsSound tree → AllByRecursion (IsPlaced version) (entries_of version tree)
  placed version (node None children rest) form h = absurd h
  placed version (node (Some row) children rest) form h =
      let few = sound_fixed (node (Some row) children rest) row refl h in (
        record {
          steps = tt;
          form = form.0.0;
          valid = h.0;
          index = told_index version (node (Some row) children rest) few;
          elements = told_elements version row h.0.kind children rest h.0.is_kind h.2 h.3;
        },
        all_append (IsPlaced version) (entries_below version children) (entries_onward version rest)
            (placed_below version (fixed_with rest children) row children few form.1 (own_within AllKept children rest form.2) h.2)
            (placed_onward version row children rest form.2 h.3),
      )

  placed_below : (version : Version) (limit : ℕ) (parent : Row) (children : Children Row) → limit < 2 ^ 32 → AreBranches AllKept children → AreWithinDepth limit children → AreSound parent children → AllByRecursion (IsPlaced version) (entries_below version children)
  placed_below version limit parent none few form within h = tt
  placed_below version limit parent (child (label text) tree children) few form within h =
      all_append (IsPlaced version) (map (one_step_below (at (label text))) (entries_of version tree)) (entries_below version children)
      (step_behind version (at (label text)) (entries_of version tree) (word_of parent (row_of tree) h.0) (placed version tree form.2 h.1))
      (placed_below version limit parent children few form.3 within h.2)
    where
      word_of : (r : Row) (row : Option Row) → HasChild r (label text) row → IsWordStep (label text)
      word_of r None k = absurd k
      word_of r (Some row) k = k.word
  placed_below version limit parent (child (index n) tree children) few form within h =
      let least = within.0 in
      all_append (IsPlaced version) (map (one_step_below (at (index n))) (entries_of version tree)) (entries_below version children)
      (step_behind version (at (index n)) (entries_of version tree) (omega (arith, least, few)) (placed version tree form.2 h.1))
      (placed_below version limit parent children few form.3 within.1 h.2)

  placed_onward : (version : Version) (parent : Row) (children : Children Row) (rest : Rest Row) → IsRestOf AllKept children rest → IsRestSound parent rest → AllByRecursion (IsPlaced version) (entries_onward version rest)
  placed_onward version parent children no_rest form h = tt
  placed_onward version parent children (onward n tree) form h = step_behind version to_rest (entries_of version tree) tt (placed version tree form.3 h.1)

short_behind : (n : ℕ) (step : StateStep) (entries : List Entry) → AllByRecursion (λ entry. length entry.path ≤ n) entries → AllByRecursion (λ entry. length entry.path ≤ suc n) (map (one_step_below step) entries)
short_behind n step [] h = tt
short_behind n step (entry ∷ entries) h = (let few = h.0 in omega (arith, few), short_behind n step entries h.1)

mutual
  -- no row stands deeper than the tree is deep
  short_paths : (version : Version) (n : ℕ) (tree : Tree Row) → tree_depth tree ≤ n → AllByRecursion (λ entry. length entry.path ≤ n) (entries_of version tree)
  short_paths version n (node None children rest) h =
      all_append (λ entry. length entry.path ≤ n) (entries_below version children) (entries_onward version rest) (short_below version n children (omega (arith, h))) (short_onward version n rest (omega (arith, h)))
  short_paths version n (node (Some row) children rest) h = (
    omega arith,
    all_append (λ entry. length entry.path ≤ n) (entries_below version children) (entries_onward version rest) (short_below version n children (omega (arith, h))) (short_onward version n rest (omega (arith, h))),
  )

  short_below : (version : Version) (n : ℕ) (children : Children Row) → children_depth children ≤ n → AllByRecursion (λ entry. length entry.path ≤ n) (entries_below version children)
  short_below version n none h = tt
  short_below version zero (child step tree children) h = absurd (omega (arith, h))
  short_below version (suc n) (child step tree children) h =
      all_append (λ entry. length entry.path ≤ suc n) (map (one_step_below (at step)) (entries_of version tree)) (entries_below version children)
      (short_behind n (at step) (entries_of version tree) (short_paths version n tree (omega (arith, h))))
      (short_below version (suc n) children (omega (arith, h)))

  short_onward : (version : Version) (n : ℕ) (rest : Rest Row) → rest_depth rest ≤ n → AllByRecursion (λ entry. length entry.path ≤ n) (entries_onward version rest)
  short_onward version n no_rest h = tt
  short_onward version zero (onward m tree) h = absurd (omega (arith, h))
  short_onward version (suc n) (onward m tree) h = short_behind n to_rest (entries_of version tree) (short_paths version n tree (omega (arith, h)))

placed_valid : (version : Version) (tree : Tree Row) → IsValidTable tree → AllByRecursion (IsPlaced version) (entries_of version tree)
placed_valid version tree h = by (row_of tree) refl
  where
    by : (row : Option Row) → row_of tree ≡ row → AllByRecursion (IsPlaced version) (entries_of version tree)
    by (Some row) e = placed version tree h.form (valid_sound tree row e h)
    by None e = subst (λ t. AllByRecursion (IsPlaced version) (entries_of version t)) (sym (valid_empty tree e h)) tt

each_fits : (version : Version) (rows : List Entry) → length (flat_map (row_bytes version) rows) < 2 ^ 64 → AllByRecursion (λ row. length (row_bytes version row) < 2 ^ 64) rows
each_fits version [] fits = tt
each_fits version (row ∷ rows) fits =
    let split = ap length (flat_map-cons (row_bytes version) row rows) in
    let sum = length-append (row_bytes version row) (flat_map (row_bytes version) rows) in
    (omega (arith, fits, split, sum), each_fits version rows (omega (arith, fits, split, sum)))

-- a step that a version tells is one of its own
told_step : (version : Version) (step : StateStep) → IsStateStep versions.Second step → CanHoldStep version step → IsStateStep version step
told_step version (at (label text)) h t = h
told_step version (at (index n)) h t = h
told_step version to_rest h t = t

told_row : (version : Version) (row : Entry) → IsPlaced version row → IsToldRow version row → length row.path ≤ step_limit → length (row_bytes version row) < 2 ^ 64 → IsStateRow version row
told_row version row p t few fits =
    state_row version row p (all_both (IsStateStep versions.Second) (CanHoldStep version) (IsStateStep version) row.path (told_step version) p.steps t, few) fits

-- the rows of a valid table are told by their bytes, where these fit into memory
pub valid_rows : (version : Version) (tree : Tree Row) → IsValidTable tree → CanHoldTable version tree → length (flat_map (row_bytes version) (entries_of version tree)) < 2 ^ 64 → AllByRecursion (IsStateRow version) (entries_of version tree)
valid_rows version tree h t fits =
    let rows : List Entry = entries_of version tree in
    let both = all_both (IsPlaced version) (IsToldRow version) (λ row. IsPlaced version row × IsToldRow version row) rows (λ row p q. (p, q)) (placed_valid version tree h) t in
    let short = all_both (λ row. length row.path ≤ step_limit) (λ row. length (row_bytes version row) < 2 ^ 64) (λ row. (length row.path ≤ step_limit) × (length (row_bytes version row) < 2 ^ 64)) rows (λ row p q. (p, q)) (short_paths version step_limit tree (valid_deep tree h)) (each_fits version rows fits) in
    all_both (λ row. IsPlaced version row × IsToldRow version row) (λ row. (length row.path ≤ step_limit) × (length (row_bytes version row) < 2 ^ 64)) (IsStateRow version) rows (λ row p q. told_row version row p.0 p.1 q.0 q.1) both short

-- and they stand at the places that are told, whatever was known before
pub valid_places : (version : Version) (tree : Tree Row) → IsValidTable tree → CanHoldTable version tree → (known : List ℕ) → rows_of tree ≡ rows_with known (entries_of version tree)
valid_places version tree h t known = by (row_of tree) refl
  where
    by : (row : Option Row) → row_of tree ≡ row → rows_of tree ≡ rows_with known (entries_of version tree)
    by (Some row) e = sym (rows_are version tree (valid_sound tree row e h) t known)
    by None e = subst (λ tr. rows_of tr ≡ rows_with known (entries_of version tr)) (sym (valid_empty tree e h)) refl
