-- Examples: what small tables are printed as. Each table is an open struct with some fields.
use Rattle.std.proofs.Common.{◌≡◌, ℕ, ℤ, pos, negsuc, List, [], ◌∷◌, true, false, Option, None, Some, refl}
use Rattle.std.specs.Prelude.{codes}
use Rattle.std.specs.Fmt.{digits}
use Rattle.std.specs.Str.{chars}
use lib.Utf8.{encode}
use Rattle.cue_sets.specs.Pieces.{least, greatest}
use Rattle.cue_scalars.specs.declared.scalar_set.ScalarSet.{ScalarSet}
use Rattle.cue_row.specs.declared.level.Level.TheVariants.{Optional, Required, Given}
use Rattle.cue_row.specs.declared.parts.RowParts.{RowParts as Row}
use Rattle.cue_lattice.specs.Path.{label, index}
use Rattle.cue_table.specs.Tree.{Tree, node, Children, none, child, no_rest, onward, empty}
use Rattle.cue_print.specs.Spelled.{term_text, terms_text, operand_text, default_text, value_text, part_texts, field_texts, element_texts, ending_texts, file_text}
use Rattle.cue_print.specs.Terms.{terms_of}
use Rattle.cue_print.specs.Printed.{row_value, value_of, fields_below, element_below, element_at, rest_value, file_of}

-- ---- sets of scalars
abbrev no_scalar : ScalarSet
no_scalar = record { null = false; no = false; yes = false; ints = []; texts = (false, []) }

-- the integers from the first to the last
abbrev from_to : ℤ → ℤ → ScalarSet
from_to first last = record no_scalar { ints = (first, last) ∷ [] }

abbrev just : ℕ → ScalarSet
just n = from_to (pos n) (pos n)

-- those up to the first, and those from the last on
abbrev around : ℤ → ℤ → ScalarSet
around first last = record no_scalar { ints = (least, first) ∷ (last, greatest) ∷ [] }

-- two integers
abbrev pair : ℕ → ℕ → ScalarSet
pair m n = record no_scalar { ints = (pos m, pos m) ∷ (pos n, pos n) ∷ [] }

-- all texts but these
abbrev all_but : List (List ℕ) → ScalarSet
all_but texts = record no_scalar { texts = (true, texts) }

abbrev every : ScalarSet
every = record { null = true; no = true; yes = true; ints = (least, greatest) ∷ []; texts = (true, []) }

-- ---- rows of fields that are given
abbrev nothing : Row
nothing = record { level = Given; value = no_scalar; usual = no_scalar; struct_ok = false; list_ok = false; labels = None; least = 0; most = None }

abbrev open_struct : Row
open_struct = record nothing { struct_ok = true }

-- a struct of these labels alone
abbrev closed_struct : List (List ℕ) → Row
closed_struct labels = record open_struct { labels = Some labels }

abbrev a_list : ℕ → Option ℕ → Row
a_list least most = record nothing { list_ok = true; least = least; most = most }

-- some scalars, of which some are usual
abbrev some_of : ScalarSet → ScalarSet → Row
some_of value usual = record nothing { value = value; usual = usual }

-- some scalars, each of them usual
abbrev any_of : ScalarSet → Row
any_of value = some_of value value

-- anything
abbrev free : Row
free = record { level = Given; value = every; usual = every; struct_ok = true; list_ok = true; labels = None; least = 0; most = None }

-- ---- tables
abbrev leaf : Row → Tree Row
leaf row = node (Some row) none no_rest

abbrev at : List ℕ → Tree Row → Children Row → Children Row
at l tree others = child (label l) tree others

-- the text of an open struct with these fields
abbrev text_of : Children Row → List ℕ
text_of fields = file_text (file_of (node (Some (record open_struct { level = Optional })) fields no_rest))

nothing_is_known : file_text (file_of empty) ≡ codes "_\n"
unfolding file_text file_of value_text
nothing_is_known = refl

an_open_struct : text_of none ≡ []
unfolding file_text file_of fields_below field_texts
an_open_struct = refl

-- the default, none that is left, one of several terms, and all that is usual
defaults : text_of (at (codes "a") (leaf (some_of (pair 80 443) (just 80))) (at (codes "b") (leaf (some_of (just 443) no_scalar)) (at (codes "c") (leaf (some_of (from_to (pos 1) (pos 3)) (from_to (pos 1) (pos 2)))) (at (codes "d") (leaf (any_of (pair 80 443))) none)))) ≡ codes "\"a\": *80 | 443\n\"b\": *_|_ | 443\n\"c\": *(>=1 & <=2) | 3\n\"d\": 80 | 443\n"
unfolding file_text file_of value_text part_texts field_texts element_texts ending_texts fields_below element_below element_at rest_value value_of row_value terms_of terms_text default_text operand_text term_text chars encode digits
defaults = refl

-- *int | string, *!="x" | 1 and *(!="x" & !="y") | 1
defaults_of_two_kinds : text_of (at (codes "a") (leaf (some_of (record (all_but []) { ints = (least, greatest) ∷ [] }) (from_to least greatest))) (at (codes "b") (leaf (some_of (record (all_but (codes "x" ∷ [])) { ints = (pos 1, pos 1) ∷ [] }) (all_but (codes "x" ∷ [])))) (at (codes "c") (leaf (some_of (record (all_but (codes "x" ∷ codes "y" ∷ [])) { ints = (pos 1, pos 1) ∷ [] }) (all_but (codes "x" ∷ codes "y" ∷ [])))) none))) ≡ codes "\"a\": *int | string\n\"b\": *!=\"x\" | 1\n\"c\": *(!=\"x\" & !=\"y\") | 1\n"
unfolding file_text file_of value_text part_texts field_texts element_texts ending_texts fields_below element_below element_at rest_value value_of row_value terms_of terms_text default_text operand_text term_text chars encode digits
defaults_of_two_kinds = refl

-- a number is told before a bound
integers : text_of (at (codes "a") (leaf (any_of (from_to least greatest))) (at (codes "b") (leaf (any_of (around (pos 4) (pos 6)))) (at (codes "c") (leaf (any_of (from_to (pos 250) (pos 255)))) (at (codes "d") (leaf (any_of (from_to least least))) (at (codes "e") (leaf (any_of (from_to (negsuc 0) greatest))) none))))) ≡ codes "\"a\": int\n\"b\": <=4 | >=6\n\"c\": >=250 & <=255\n\"d\": -9223372036854775808\n\"e\": >=-1\n"
unfolding file_text file_of value_text part_texts field_texts element_texts ending_texts fields_below element_below element_at rest_value value_of row_value terms_of terms_text default_text operand_text term_text chars encode digits
integers = refl

-- null, truth values, integers, texts
scalars_of_each_kind : text_of (at (codes "a") (leaf (any_of (record (just 7) { null = true; no = true; yes = true; texts = (false, codes "x" ∷ codes "y" ∷ []) }))) (at (codes "b") (leaf (any_of (record (all_but []) { no = true }))) (at (codes "c") (leaf (any_of (record no_scalar { yes = true }))) none))) ≡ codes "\"a\": null | bool | 7 | \"x\" | \"y\"\n\"b\": false | string\n\"c\": true\n"
unfolding file_text file_of value_text part_texts field_texts element_texts ending_texts fields_below element_below element_at rest_value value_of row_value terms_of terms_text default_text operand_text term_text chars encode digits
scalars_of_each_kind = refl

-- quoted labels and the marks of levels, each at a free place
labels_and_levels : text_of (at (codes "a\"b\n\u{1}") (leaf (any_of (just 1))) (at (codes "c") (leaf (record free { level = Required })) (at (codes "d") (leaf (record (any_of (just 1)) { level = Optional })) none))) ≡ codes "\"a\\\"b\\n\\u0001\": 1\n\"c\"!: _\n\"d\"?: 1\n"
unfolding file_text file_of value_text part_texts field_texts element_texts ending_texts fields_below element_below element_at rest_value value_of row_value terms_of terms_text default_text operand_text term_text chars encode digits
labels_and_levels = refl

-- a label without a row, a row that is left out, and both
closed_structs : text_of (at (codes "a") (leaf (closed_struct (codes "p" ∷ []))) (at (codes "b") (node (Some (closed_struct (codes "p" ∷ []))) (at (codes "p") (leaf (any_of (just 1))) (at (codes "q") (leaf nothing) none)) no_rest) (at (codes "c") (node (Some (closed_struct (codes "p" ∷ codes "r" ∷ []))) (at (codes "o") (leaf (any_of (just 0))) (at (codes "r") (leaf (any_of (just 1))) none)) no_rest) (at (codes "d") (node (Some open_struct) (at (codes "p") (leaf (any_of (just 1))) none) no_rest) none)))) ≡ codes "\"a\": close({\"p\"?: _})\n\"b\": close({\"p\": 1}) & {\"q\": _|_}\n\"c\": close({\"p\"?: _, \"r\": 1}) & {\"o\": 0}\n\"d\": {\"p\": 1}\n"
unfolding file_text file_of value_text part_texts field_texts element_texts ending_texts fields_below element_below element_at rest_value value_of row_value terms_of terms_text default_text operand_text term_text chars encode digits
closed_structs = refl

-- lists of any length, of one length, and of no length
lists : text_of (at (codes "a") (leaf (a_list 0 None)) (at (codes "b") (node (Some (a_list 2 (Some 2))) (child (index 0) (leaf (any_of (just 1))) none) no_rest) (at (codes "c") (node (Some (a_list 2 (Some 1))) (child (index 0) (leaf (any_of (just 1))) (child (index 1) (leaf (any_of (just 2))) none)) no_rest) (at (codes "d") (leaf (a_list 1 None)) (at (codes "e") (leaf (a_list 0 (Some 0))) none))))) ≡ codes "\"a\": [...]\n\"b\": [1, _]\n\"c\": [1, 2, ...] & [_]\n\"d\": [_, ...]\n\"e\": []\n"
unfolding file_text file_of value_text part_texts field_texts element_texts ending_texts fields_below element_below element_at rest_value value_of row_value terms_of terms_text default_text operand_text term_text chars encode digits
lists = refl

-- further elements that are told: of any length, of two lengths, and of one; an element of its own in front; none that may stand
typed_lists : text_of (at (codes "a") (node (Some (a_list 0 None)) none (onward 0 (leaf (any_of (from_to least greatest))))) (at (codes "b") (node (Some (a_list 2 (Some 2))) (child (index 0) (leaf (any_of (just 1))) (child (index 1) (leaf (any_of (just 2))) none)) (onward 2 (leaf (any_of (from_to least greatest))))) (at (codes "c") (node (Some (a_list 2 None)) (child (index 0) (leaf (any_of (just 1))) (child (index 1) (leaf (record nothing { level = Optional })) none)) (onward 2 (leaf (any_of (from_to least greatest))))) (at (codes "d") (node (Some (a_list 2 None)) none (onward 0 (leaf (any_of (from_to least greatest))))) (at (codes "e") (node (Some (a_list 0 None)) none (onward 0 (leaf nothing))) (at (codes "f") (node (Some (a_list 2 (Some 1))) none (onward 1 (leaf (any_of (just 1))))) none)))))) ≡ codes "\"a\": [...int]\n\"b\": [1, 2, ...int] & [_, _]\n\"c\": [1, _|_, ...int]\n\"d\": [int, int, ...int]\n\"e\": [..._|_]\n\"f\": [_, 1, ...1] & [_]\n"
unfolding file_text file_of value_text part_texts field_texts element_texts ending_texts fields_below element_below element_at rest_value value_of row_value terms_of terms_text default_text operand_text term_text chars encode digits
typed_lists = refl

-- labels, fields and lengths are told beside nothing
nothing_with_what_is_left_out : text_of (at (codes "a") (leaf nothing) (at (codes "b") (node (Some nothing) (at (codes "p") (leaf (any_of (just 1))) none) no_rest) (at (codes "c") (node (Some (record nothing { labels = Some (codes "p" ∷ []) })) (at (codes "p") (leaf (any_of (just 1))) none) no_rest) (at (codes "d") (node (Some (record nothing { least = 1; most = Some 1 })) (at (codes "p") (leaf (any_of (just 1))) (child (index 0) (leaf (any_of (just 2))) none)) no_rest) none)))) ≡ codes "\"a\": _|_\n\"b\": {\"p\": 1} & _|_\n\"c\": close({\"p\": 1}) & _|_\n\"d\": {\"p\": 1} & [2] & _|_\n"
unfolding file_text file_of value_text part_texts field_texts element_texts ending_texts fields_below element_below element_at rest_value value_of row_value terms_of terms_text default_text operand_text term_text chars encode digits
nothing_with_what_is_left_out = refl

-- so are further elements
nothing_with_further_elements : text_of (at (codes "a") (node (Some nothing) none (onward 0 (leaf (any_of (just 1))))) none) ≡ codes "\"a\": [...1] & _|_\n"
unfolding file_text file_of value_text part_texts field_texts element_texts ending_texts fields_below element_below element_at rest_value value_of row_value terms_of terms_text default_text operand_text term_text chars encode digits
nothing_with_further_elements = refl
