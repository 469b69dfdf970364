-- The expressions that a table is printed as.
use Rattle.std.specs.Prelude.{ℕ, zero, suc, ◌+◌, Bool, true, false, not, ◌||◌, ◌&&◌, ◌==◌}
use Rattle.std.specs.Prelude.{List, [], ◌∷◌, Option, None, Some, is_some, nat_lt, if◌then◌else◌}
use Rattle.std.specs.Str.{bytes_eq}
use Rattle.cue_lattice.specs.Path.{label, index}
use Rattle.cue_sets.specs.Texts.{is_listed}
use Rattle.cue_row.specs.declared.level.Level.{Level}
use Rattle.cue_row.specs.declared.level.Level.TheVariants.{Optional}
use Rattle.cue_row.specs.declared.parts.RowParts.{RowParts as Row}
use Rattle.cue_table.specs.Tree.{Tree, node, Children, none, child, Rest, no_rest, onward, row_of}
use Rattle.cue_print.specs.Difference.{scalars_without}
use Rattle.cue_print.specs.Expressions.{PrintedTerm, Value, top, scalar, all, Parts, no_parts, struct}
use Rattle.cue_print.specs.Expressions.{close, list, bottom}
use Rattle.cue_print.specs.Expressions.{Fields, no_more, field, Elements, no_elements, element}
use Rattle.cue_print.specs.Expressions.{Ending, ends, goes_on, goes_on_as}
use Rattle.cue_print.specs.Terms.{terms_of}

-- ---- structs: the fields are those of all rows below
-- the field of a label in front of others; where there is none, an optional one of anything
abbrev pub field_in_front : List ℕ → Fields → Fields → Fields
field_in_front l no_more others = field l Optional top others
field_in_front l (field name level value fields) others =
    if bytes_eq name l then field l level value others else field_in_front l fields others

-- the field of each label
abbrev pub fields_of_labels : List (List ℕ) → Fields → Fields
fields_of_labels [] fields = no_more
fields_of_labels (l ∷ labels) fields = field_in_front l fields (fields_of_labels labels fields)

-- the fields of all other labels
abbrev pub fields_of_others : List (List ℕ) → Fields → Fields
fields_of_others labels no_more = no_more
fields_of_others labels (field name level value fields) =
    if is_listed labels name then fields_of_others labels fields
    else field name level value (fields_of_others labels fields)

-- a struct literal, where it has a field
abbrev pub struct_if_any : Fields → Parts → Parts
struct_if_any no_more parts = parts
struct_if_any (field name level value fields) parts = struct (field name level value fields) parts

-- the struct part, by the labels that may stand: all, or these alone
abbrev pub struct_part : Option (List (List ℕ)) → Fields → Parts → Parts
struct_part None fields parts = struct fields parts
struct_part (Some labels) fields parts =
    close (fields_of_labels labels fields) (struct_if_any (fields_of_others labels fields) parts)

-- ---- lists: `value_at` gives the value of each element, `path_below` that of all elements behind
-- those, where something is said of them
-- so many elements, from a first one on
abbrev pub elements_from : ℕ → ℕ → (ℕ → Value) → Elements
elements_from first zero value_at = no_elements
elements_from first (suc count) value_at =
    element (value_at first) (elements_from (first + 1) count value_at)

abbrev pub elements : ℕ → (ℕ → Value) → Elements
elements count value_at = elements_from 0 count value_at

-- how a list ends that goes on
abbrev pub dots : Option Value → Ending
dots None = goes_on
dots (Some value) = goes_on_as value

-- the list part, by the least length and the greatest
abbrev pub list_part : ℕ → Option ℕ → (ℕ → Value) → Option Value → Parts → Parts
list_part least None value_at further parts = list (elements least value_at) (dots further) parts
list_part least (Some most) value_at further parts =
    if least == most && not (is_some further) then list (elements least value_at) ends parts
    else list (elements least value_at) (dots further) (list (elements most (λ n. top)) ends parts)

-- ---- scalars
-- by the terms of the value, of what is usual, and of what of the value is not usual
abbrev pub scalar_value : List PrintedTerm → List PrintedTerm → List PrintedTerm → Value
scalar_value value usual [] = scalar None value
scalar_value value usual (term ∷ others) = scalar (Some usual) (term ∷ others)

-- ---- nothing: what is left out below it
abbrev pub has_field : Fields → Bool
has_field no_more = false
has_field (field name level value fields) = true

abbrev pub struct_left : Row → Fields → Parts → Parts
struct_left row fields parts =
    if is_some row.labels || has_field fields then struct_part row.labels fields parts else parts

abbrev pub list_left : Row → (ℕ → Value) → Option Value → Parts → Parts
list_left row value_at further parts =
    if nat_lt 0 row.least || is_some row.most || is_some further
    then list_part row.least row.most value_at further parts else parts

abbrev pub nothing_value : Row → Fields → (ℕ → Value) → Option Value → Value
nothing_value row fields value_at further =
    all (struct_left row fields (list_left row value_at further (bottom no_parts)))

-- ---- places
-- where neither a struct nor a list may stand, by the terms of the scalars that may
abbrev pub scalar_or_nothing : List PrintedTerm → Row → Fields → (ℕ → Value) → Option Value → Value
scalar_or_nothing [] row fields value_at further = nothing_value row fields value_at further
scalar_or_nothing (term ∷ terms) row fields value_at further =
    scalar_value (term ∷ terms) (terms_of row.usual) (terms_of (scalars_without row.value row.usual))

-- by whether a struct may stand, and whether a list may: anything, a struct, a list, a scalar or
-- nothing
abbrev pub value_by : Bool → Bool → Row → Fields → (ℕ → Value) → Option Value → Value
value_by true true row fields value_at further = top
value_by true false row fields value_at further = all (struct_part row.labels fields no_parts)
value_by false true row fields value_at further =
    all (list_part row.least row.most value_at further no_parts)
value_by false false row fields value_at further =
    scalar_or_nothing (terms_of row.value) row fields value_at further

-- the value of a row, by the fields and the elements below
unfoldable pub row_value : Row → Fields → (ℕ → Value) → Option Value → Value
row_value row fields value_at further =
    value_by row.struct_ok row.list_ok row fields value_at further

abbrev pub level_at : Option Row → Level
level_at None = Optional
level_at (Some row) = row.level

unfoldable mutual
  -- what a place is printed as
  pub value_of : Tree Row → Value
  value_of (node None children rest) = top
  value_of (node (Some row) children rest) =
      row_value row (fields_below children) (element_at rest (element_below children))
      (rest_value rest)

  -- the fields of the rows below
  pub fields_below : Children Row → Fields
  fields_below none = no_more
  fields_below (child (label l) tree children) =
      field l (level_at (row_of tree)) (value_of tree) (fields_below children)
  fields_below (child (index n) tree children) = fields_below children

  -- what stands at a number of its own, anything where no row is below
  pub element_below : Children Row → ℕ → Value
  element_below none number = top
  element_below (child (label l) tree children) number = element_below children number
  element_below (child (index n) tree children) number =
      if n == number then value_of tree else element_below children number

  -- the element of a number: from the rest's index on what the rest is, before it its own
  pub element_at : Rest Row → (ℕ → Value) → ℕ → Value
  element_at no_rest own number = own number
  element_at (onward n tree) own number = if nat_lt number n then own number else value_of tree

  -- what each further element is
  pub rest_value : Rest Row → Option Value
  rest_value no_rest = None
  rest_value (onward n tree) = Some (value_of tree)

-- the declarations of a table's file; nothing where the root is free
unfoldable pub file_of : Tree Row → Option Fields
file_of (node None children rest) = None
file_of (node (Some row) children rest) = Some (fields_below children)
