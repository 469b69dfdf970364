-- How the program puts texts together.
use Rattle.std.specs.Prelude.{ℕ, Bool, true, false, not, ◌||◌, ◌&&◌, List, [], ◌++◌, Option, None}
use Rattle.std.specs.Prelude.{Some, is_some, nat_lt, ◌==◌, codes, if◌then◌else◌}
use Rattle.std.specs.List.{flat_map}
use Rattle.cue_lattice.specs.Path.{label}
use Rattle.cue_row.specs.declared.parts.RowParts.{RowParts as Row}
use Rattle.cue_row.specs.Quoted.{quote_text}
use Rattle.cue_table.specs.Tree.{Tree, below, rest_below, row_of, step_into}
use Rattle.cue_print.specs.Expressions.{Value, top, no_parts, Fields}
use Rattle.cue_print.specs.Spelled.{join_texts, mark_text, struct_text, list_text, value_text}
use Rattle.cue_print.specs.Spelled.{part_texts, field_texts, element_texts}
use Rattle.cue_print.specs.Printed.{fields_of_labels, fields_of_others, struct_if_any, has_field, elements, level_at}
use Rattle.cue_print.specs.Printed.{value_of, fields_below, element_below, element_at, rest_value}

-- a separator, unless nothing stands before it
abbrev pub separator_before : List ℕ → Bool → List ℕ
separator_before separator true = []
separator_before separator false = separator

-- a text behind other parts
abbrev pub after_conjunction : List ℕ → List ℕ
after_conjunction part = codes " & " ++ part

-- ---- what is below a place
-- the fields
abbrev pub fields_at : Tree Row → Fields
fields_at tree = fields_below (below tree)

-- the elements, by their numbers
abbrev pub element_of : Tree Row → ℕ → Value
element_of tree = element_at (rest_below tree) (element_below (below tree))

-- what each further element is
abbrev pub further_at : Tree Row → Option Value
further_at tree = rest_value (rest_below tree)

-- the field of a label, by what is found at it: an optional one of anything where there is no row
abbrev pub found_text : List ℕ → Option (Tree Row) → List ℕ
found_text l None = quote_text l ++ codes "?: _"
found_text l (Some tree) =
    quote_text l ++ (mark_text (level_at (row_of tree)) ++ value_text (value_of tree))

abbrev pub declared_text : List ℕ → Tree Row → List ℕ
declared_text l tree = found_text l (step_into tree (label l))

-- ---- structs
-- what stands before a field whose label may not stand
abbrev pub field_opening : Bool → List ℕ
field_opening true = codes " & {"
field_opening false = codes ", "

-- what stands behind the last of them
abbrev pub fields_closing : Bool → List ℕ
fields_closing true = []
fields_closing false = codes "}"

-- the struct of the fields whose labels may not stand, behind others; nothing where there are none
unfoldable pub beside_text : Option (List (List ℕ)) → Fields → List ℕ
beside_text None fields = []
beside_text (Some labels) fields =
    flat_map after_conjunction (part_texts (struct_if_any (fields_of_others labels fields) no_parts))

-- a closed struct of the labels that may stand, and the struct of the other fields beside it
abbrev pub closed_text : List (List ℕ) → Option (List (List ℕ)) → Fields → List ℕ
closed_text listed labels fields =
    codes "close({" ++ (join_texts (codes ", ") (field_texts (fields_of_labels listed fields))
    ++ (codes "})" ++ beside_text labels fields))

-- the struct part of a place
abbrev pub written_struct : Option (List (List ℕ)) → Fields → List ℕ
written_struct None fields = struct_text (field_texts fields)
written_struct (Some labels) fields = closed_text labels (Some labels) fields

-- the struct part of a place where nothing may stand, in front of others
unfoldable pub struct_before : Row → Fields → List ℕ
struct_before row fields =
    if is_some row.labels || has_field fields
    then written_struct row.labels fields ++ codes " & "
    else []

-- ---- lists
-- whether the elements alone tell a list
abbrev pub is_exact : ℕ → Option ℕ → Option Value → Bool
is_exact least None further = false
is_exact least (Some most) further = least == most && not (is_some further)

-- what each further element is, where something is said of it
abbrev pub rest_value_text : Option Value → List ℕ
rest_value_text None = []
rest_value_text (Some value) = value_text value

-- what ends the elements of a list, by their number and whether they alone tell it
abbrev pub ending_text : ℕ → Bool → Option Value → List ℕ
ending_text count true further = []
ending_text count false further =
    separator_before (codes ", ") (count == 0) ++ (codes "..." ++ rest_value_text further)

-- the list of the greatest length, behind others; nothing where the elements alone tell it, or
-- there is none
unfoldable pub longest_text : Option ℕ → Bool → List ℕ
longest_text None is_exact = []
longest_text (Some most) true = []
longest_text (Some most) false =
    after_conjunction (list_text (element_texts (elements most (λ n. top))))

-- the list part of a place: its elements and what ends them, and the list of the greatest length
abbrev pub written_list : ℕ → Option ℕ → (ℕ → Value) → Option Value → List ℕ
written_list least most value_at further =
    codes "[" ++ (join_texts (codes ", ") (element_texts (elements least value_at))
    ++ (ending_text least (is_exact least most further) further
    ++ (codes "]" ++ longest_text most (is_exact least most further))))

-- the list part of a place where nothing may stand, in front of others
unfoldable pub list_before : Row → (ℕ → Value) → Option Value → List ℕ
list_before row value_at further =
    if nat_lt 0 row.least || is_some row.most || is_some further
    then written_list row.least row.most value_at further ++ codes " & "
    else []

-- ---- nothing
abbrev pub written_nothing : Row → Tree Row → List ℕ
written_nothing row tree =
    struct_before row (fields_at tree)
    ++ (list_before row (element_of tree) (further_at tree) ++ codes "_|_")
