-- How many bytes the parts of a state take.
use Rattle.std.proofs.Common.{◌≡◌, ℕ, zero, suc, ◌+◌, ◌*◌, ◌<◌, ◌≤◌, ℤ, List, [], ◌∷◌, ◌++◌, length, take, get_or, Option, Some, None, refl, sym, ap, ◌∙◌, arith}
use Rattle.std.specs.Int.{w16, w64, to_be_bytes}
use Rattle.std.specs.List.{flat_map}
use Rattle.std.proofs.lemmas.List.{append-nil, length-append, take_more, take_all}
use Rattle.std.proofs.lemmas.List.Concat.{flat_map-cons, flat_map-append}
use Rattle.cue_lattice.specs.Path.{Step, label, index}
use Rattle.cue_scalars.specs.declared.scalar_set.ScalarSet.{ScalarSet}
use Rattle.cue_row.specs.declared.parts.RowParts.{RowParts as Row}
use Rattle.cue_row.specs.Levels.{level_of}
use Rattle.cue_table.specs.Spans.{Span, field, elements, first_of_span, alike_elements, branches_of_span, branches_of_spans}
use Rattle.cue_table.specs.Tree.{Tree, Children, child, row_of, rest_below, rest_at, children_of}
use Rattle.cue_codec.specs.Entry.{at, to_rest, Entry, entries_of, entries_below, entries_onward}
use Rattle.cue_codec.specs.Inner.Spans.{branch_count}
use Rattle.cue_codec.specs.Parts.{Lengths, integer_bytes, counted_bytes, piece_bytes, text_bytes, text_set_bytes, set_bytes, labels_bytes, most_bytes, index_bytes, lengths_bytes, step_bytes, bit}
use Rattle.cue_codec.specs.RowBytes.{free, scalar, struct, list, nothing, row_part_bytes, parts_of_row, scalars_bytes, left_out_bytes, row_bytes, row_bytes_from}
use Rattle.cue_codec.specs.Size.{at_most_64_bits, size_of}
use Rattle.cue_codec.specs.State.{table_bytes}
use Rattle.cue_codec.specs.Version.{written_version}
use Rattle.cue_codec.proofs.Entries.{others_of, own_entry}
use Rattle.cue_codec.proofs.WrittenStates.{state_parts, rows_from_root}
use Rattle.cue_codec.proofs.WrittenRows.{bytes_begin, bytes_begin_below, bytes_more, bytes_rest, bytes_no_rest}

-- a text takes two bytes for its length
pub text_length : (text : List ℕ) → length (text_bytes text) ≡ 2 + length text
unfolding text_bytes
text_length text = length-append (to_be_bytes w16 (length text)) text

pub texts_length : (texts : List (List ℕ)) → length (counted_bytes text_bytes texts) ≡ 8 + length (flat_map text_bytes texts)
unfolding counted_bytes
texts_length texts = length-append (to_be_bytes w64 (length texts)) (flat_map text_bytes texts)

piece_length : (piece : ℤ × ℤ) → length (piece_bytes piece) ≡ 16
unfolding piece_bytes integer_bytes
piece_length piece = refl

pieces_each : (pieces : List (ℤ × ℤ)) → length (flat_map piece_bytes pieces) ≡ 16 * length pieces
pieces_each [] = refl
pieces_each (piece ∷ pieces) = let each = pieces_each pieces in omega (arith, ap length (flat_map-cons piece_bytes piece pieces), length-append (piece_bytes piece) (flat_map piece_bytes pieces), piece_length piece)

pieces_length : (pieces : List (ℤ × ℤ)) → length (counted_bytes piece_bytes pieces) ≡ 8 + 16 * length pieces
unfolding counted_bytes
pieces_length pieces = length-append (to_be_bytes w64 (length pieces)) (flat_map piece_bytes pieces) ∙ ap (λ n. 8 + n) (pieces_each pieces)

pub set_length : (set : ScalarSet) → length (set_bytes set) ≡ 10 + 16 * length set.ints + length (counted_bytes text_bytes set.texts.1)
unfolding set_bytes text_set_bytes
set_length set = omega (arith, length-append (counted_bytes piece_bytes set.ints) (bit set.texts.0 ∷ counted_bytes text_bytes set.texts.1), pieces_length set.ints)

pub all_labels_length : length (labels_bytes None) ≡ 1
unfolding labels_bytes
all_labels_length = refl

pub labels_length : (labels : List (List ℕ)) → length (labels_bytes (Some labels)) ≡ 1 + length (counted_bytes text_bytes labels)
unfolding labels_bytes
labels_length labels = omega arith

pub open_length : (least fixed : ℕ) → length (lengths_bytes written_version (least, None, fixed)) ≡ 9
unfolding lengths_bytes most_bytes index_bytes
open_length least fixed = refl

pub closed_length : (least most fixed : ℕ) → length (lengths_bytes written_version (least, Some most, fixed)) ≡ 13
unfolding lengths_bytes most_bytes index_bytes
closed_length least most fixed = refl

pub label_length : (text : List ℕ) → length (step_bytes written_version (at (label text))) ≡ 3 + length text
unfolding step_bytes
label_length text = omega (arith, text_length text)

pub index_length : (n : ℕ) → length (step_bytes written_version (at (index n))) ≡ 5
unfolding step_bytes
index_length n = refl

-- ---- the parts of a row, by their kind

pub free_length : length (row_part_bytes written_version free) ≡ 1
unfolding row_part_bytes
free_length = refl

pub scalars_length : (value usual : ScalarSet) → length (row_part_bytes written_version (scalar value usual)) ≡ 1 + (length (set_bytes value) + length (set_bytes usual))
unfolding row_part_bytes scalars_bytes
scalars_length value usual = omega (arith, length-append (set_bytes value) (set_bytes usual))

pub struct_length : (labels : Option (List (List ℕ))) → length (row_part_bytes written_version (struct labels)) ≡ 1 + length (labels_bytes labels)
unfolding row_part_bytes
struct_length labels = omega arith

pub list_length : (lengths : Lengths) → length (row_part_bytes written_version (list lengths)) ≡ 1 + length (lengths_bytes written_version lengths)
unfolding row_part_bytes
list_length lengths = omega arith

pub left_out_length : (labels : Option (List (List ℕ))) (lengths : Lengths) → length (row_part_bytes written_version (nothing labels lengths)) ≡ 1 + (length (labels_bytes labels) + length (lengths_bytes written_version lengths))
unfolding row_part_bytes left_out_bytes
left_out_length labels lengths = omega (arith, length-append (labels_bytes labels) (lengths_bytes written_version lengths))

pub ruleset lengths_of_labels = (all_labels_length, labels_length)

pub ruleset lengths_of_parts = (free_length, scalars_length, struct_length, list_length, left_out_length)

-- ---- lists of texts

pub text_more : (done text rest : List ℕ) (size : ℕ) → rest ≡ done ++ text_bytes text → size ≡ at_most_64_bits (8 + length done) → at_most_64_bits (at_most_64_bits (size + 2) + length text) ≡ at_most_64_bits (8 + length rest)
text_more done text rest size e h = omega (arith, h, ap length e, length-append done (text_bytes text), text_length text)

pub texts_more : (texts : List (List ℕ)) (i : ℕ) (text : List ℕ) (size : ℕ) → i < length texts → text ≡ get_or texts i text → size ≡ at_most_64_bits (8 + length (flat_map text_bytes (take i texts)))
    → at_most_64_bits (at_most_64_bits (size + 2) + length text) ≡ at_most_64_bits (8 + length (flat_map text_bytes (take (i + 1) texts)))
texts_more texts i text size h g e =
    let done = flat_map text_bytes (take i texts) in
    let one : take (i + 1) texts ≡ take i texts ++ text ∷ [] = take_more texts i text h ∙ ap (λ t. take i texts ++ t ∷ []) (sym g) in
    let bytes = ap (flat_map text_bytes) one ∙ flat_map-append text_bytes (take i texts) (text ∷ []) ∙ ap (λ t. done ++ t) (flat_map-cons text_bytes text [] ∙ append-nil (text_bytes text)) in
    text_more done text (flat_map text_bytes (take (i + 1) texts)) size bytes e

pub texts_done : (texts : List (List ℕ)) (i size : ℕ) → length texts ≤ i → size ≡ at_most_64_bits (8 + length (flat_map text_bytes (take i texts))) → size ≡ size_of (counted_bytes text_bytes texts)
texts_done texts i size h e = e ∙ ap (λ t. at_most_64_bits (8 + length (flat_map text_bytes t))) (take_all i texts h) ∙ sym (ap at_most_64_bits (texts_length texts))

-- ---- rows

row_length : (depth : ℕ) (bytes : List ℕ) (entry : Entry) → entry.path ≡ [] → length (row_bytes_from written_version depth bytes entry) ≡ 2 + length bytes + length (row_part_bytes written_version (parts_of_row entry.row entry.fixed))
unfolding row_bytes_from
row_length depth bytes entry e =
    let said = level_of entry.row.level ∷ row_part_bytes written_version (parts_of_row entry.row entry.fixed) in
    omega (arith, ap (λ p. length (bytes ++ (flat_map (step_bytes written_version) p ++ said))) e, length-append bytes said)

pub size_begin :
    (depth : ℕ) (bytes : List ℕ) (tree : Tree Row) (row : Row) (steps parts size : ℕ) → row_of tree ≡ Some row → steps ≡ size_of bytes → ((fixed : ℕ) → parts ≡ size_of (row_part_bytes written_version (parts_of_row row fixed)))
    → size ≡ at_most_64_bits (at_most_64_bits (2 + steps) + parts) → at_most_64_bits (size + length (flat_map (row_bytes_from written_version depth bytes) (others_of written_version tree))) ≡ size_of (flat_map (row_bytes_from written_version depth bytes) (entries_of written_version tree))
size_begin depth bytes tree row steps parts size e s p h =
    let all = bytes_begin depth bytes tree row [] (row_bytes_from written_version depth bytes (own_entry written_version tree row)) e refl in
    let own = p (own_entry written_version tree row).fixed in
    omega (arith, s, own, h, ap length all, row_length depth bytes (own_entry written_version tree row) refl, length-append (row_bytes_from written_version depth bytes (own_entry written_version tree row)) (flat_map (row_bytes_from written_version depth bytes) (others_of written_version tree)))

pub size_begin_below : (depth : ℕ) (bytes : List ℕ) (tree : Tree Row) → row_of tree ≡ None → at_most_64_bits (0 + length (flat_map (row_bytes_from written_version depth bytes) (others_of written_version tree))) ≡ size_of (flat_map (row_bytes_from written_version depth bytes) (entries_of written_version tree))
size_begin_below depth bytes tree e = omega (arith, ap length (bytes_begin_below depth bytes tree [] e))

size_child :
    (depth : ℕ) (bytes : List ℕ) (step : Step) (tree : Tree Row) (children : Children Row) (behind : List Entry)
    → length (flat_map (row_bytes_from written_version depth bytes) (entries_below written_version (child step tree children) ++ behind))
    ≡ length (flat_map (row_bytes_from written_version (depth + 1) (bytes ++ step_bytes written_version (at step))) (entries_of written_version tree)) + length (flat_map (row_bytes_from written_version depth bytes) (entries_below written_version children ++ behind))
size_child depth bytes step tree children behind =
    let these = flat_map (row_bytes_from written_version (depth + 1) (bytes ++ step_bytes written_version (at step))) (entries_of written_version tree) in
    let parts = bytes_more depth bytes step tree (child step tree children) children behind [] these (flat_map (row_bytes_from written_version depth bytes) (entries_below written_version (child step tree children) ++ behind)) refl refl refl in
    sym (ap length parts) ∙ length-append these (flat_map (row_bytes_from written_version depth bytes) (entries_below written_version children ++ behind))

size_alike :
    (depth : ℕ) (bytes : List ℕ) (i more : ℕ) (tree : Tree Row) (others : Children Row) (behind : List Entry) (one : ℕ)
    → ((n : ℕ) → one ≡ size_of (flat_map (row_bytes_from written_version (depth + 1) (bytes ++ step_bytes written_version (at (index n)))) (entries_of written_version tree)))
    → at_most_64_bits ((more + 1) * one + length (flat_map (row_bytes_from written_version depth bytes) (entries_below written_version others ++ behind)))
    ≡ size_of (flat_map (row_bytes_from written_version depth bytes) (entries_below written_version (alike_elements i more tree others) ++ behind))
size_alike depth bytes i zero tree others behind one o = omega (arith, o i, size_child depth bytes (index i) tree others behind)
size_alike depth bytes i (suc more) tree others behind one o =
    omega (arith, o i, size_child depth bytes (index i) tree (alike_elements (suc i) more tree others) behind, size_alike depth bytes (suc i) more tree others behind one o)

-- branches that are kept as one take as many bytes each, since each index does
size_spanned :
    (depth : ℕ) (bytes : List ℕ) (span : Span) (tree : Tree Row) (others : Children Row) (behind : List Entry) (steps first one : ℕ)
    → steps ≡ size_of bytes → first ≡ size_of (step_bytes written_version (at (first_of_span span))) → ((d : ℕ) (b : List ℕ) → at_most_64_bits (steps + first) ≡ size_of b → one ≡ size_of (flat_map (row_bytes_from written_version d b) (entries_of written_version tree)))
    → at_most_64_bits (branch_count span * one + length (flat_map (row_bytes_from written_version depth bytes) (entries_below written_version others ++ behind)))
    ≡ size_of (flat_map (row_bytes_from written_version depth bytes) (entries_below written_version (branches_of_span span tree others) ++ behind))
size_spanned depth bytes (field text) tree others behind steps first one s f m =
    let step = step_bytes written_version (at (label text)) in
    let count = m (depth + 1) (bytes ++ step) (omega (arith, s, f, length-append bytes step)) in
    omega (arith, count, size_child depth bytes (label text) tree others behind)
size_spanned depth bytes (elements i more) tree others behind steps first one s f m =
    size_alike depth bytes i more tree others behind one
    (λ n. m (depth + 1) (bytes ++ step_bytes written_version (at (index n))) (omega (arith, s, f, index_length i, index_length n, length-append bytes (step_bytes written_version (at (index n))))))

pub size_more :
    (depth : ℕ) (bytes : List ℕ) (span : Span) (tree : Tree Row) (rest left : List (Span × Tree Row)) (behind : List Entry) (steps first size one all : ℕ) → rest ≡ (span, tree) ∷ left
    → steps ≡ size_of bytes → first ≡ size_of (step_bytes written_version (at (first_of_span span))) → ((d : ℕ) (b : List ℕ) → at_most_64_bits (steps + first) ≡ size_of b → one ≡ size_of (flat_map (row_bytes_from written_version d b) (entries_of written_version tree)))
    → at_most_64_bits (size + length (flat_map (row_bytes_from written_version depth bytes) (entries_below written_version (branches_of_spans rest) ++ behind))) ≡ all
    → at_most_64_bits (at_most_64_bits (size + at_most_64_bits (branch_count span * one)) + length (flat_map (row_bytes_from written_version depth bytes) (entries_below written_version (branches_of_spans left) ++ behind))) ≡ all
size_more depth bytes span tree rest left behind steps first size one all e s f m h =
    let these = size_spanned depth bytes span tree (branches_of_spans left) behind steps first one s f m in
    omega (arith, these, h, ap (λ spans. length (flat_map (row_bytes_from written_version depth bytes) (entries_below written_version (branches_of_spans spans) ++ behind))) e)

rest_length : length (step_bytes written_version to_rest) ≡ 1
unfolding step_bytes
rest_length = refl

pub size_rest :
    (depth : ℕ) (bytes : List ℕ) (tree branch : Tree Row) (left : Children Row) (steps size more all : ℕ) → children_of left ≡ [] → rest_at (rest_below tree) ≡ Some branch
    → steps ≡ size_of bytes → ((d : ℕ) (b : List ℕ) → at_most_64_bits (steps + 1) ≡ size_of b → more ≡ size_of (flat_map (row_bytes_from written_version d b) (entries_of written_version branch)))
    → at_most_64_bits (size + length (flat_map (row_bytes_from written_version depth bytes) (entries_below written_version left ++ entries_onward written_version (rest_below tree)))) ≡ all → at_most_64_bits (size + more) ≡ all
size_rest depth bytes tree branch left steps size more all e r s m h =
    let these = flat_map (row_bytes_from written_version (depth + 1) (bytes ++ step_bytes written_version to_rest)) (entries_of written_version branch) in
    let count = m (depth + 1) (bytes ++ step_bytes written_version to_rest) (omega (arith, s, rest_length, length-append bytes (step_bytes written_version to_rest))) in
    let parts = bytes_rest depth bytes tree branch left [] these _ e r refl refl in
    omega (arith, count, h, ap length parts)

pub size_no_rest :
    (depth : ℕ) (bytes : List ℕ) (tree : Tree Row) (left : Children Row) (size all : ℕ) → children_of left ≡ [] → rest_at (rest_below tree) ≡ None → size ≡ at_most_64_bits size
    → at_most_64_bits (size + length (flat_map (row_bytes_from written_version depth bytes) (entries_below written_version left ++ entries_onward written_version (rest_below tree)))) ≡ all → size ≡ all
size_no_rest depth bytes tree left size all e r s h =
    let none = bytes_no_rest depth bytes tree left [] _ e r refl in
    omega (arith, s, h, ap length none)

-- the head takes 13 bytes
pub state_length : (tree : Tree Row) (rows : ℕ) → rows ≡ size_of (flat_map (row_bytes_from written_version 0 []) (entries_of written_version tree)) → at_most_64_bits (13 + rows) ≡ size_of (table_bytes tree)
state_length tree rows h =
    let all = entries_of written_version tree in
    omega (arith, h, ap length (state_parts all), ap length (rows_from_root all), length-append (to_be_bytes w64 (length all)) (flat_map (row_bytes written_version) all))
