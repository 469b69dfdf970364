-- The text of printed expressions.
use Rattle.std.specs.Prelude.{ℕ, Bool, true, false, List, [], ◌∷◌, ◌++◌, map, Option, None, Some}
use Rattle.std.specs.Prelude.{codes, if◌then◌else◌}
use Rattle.std.specs.List.{flat_map}
use Rattle.std.specs.Fmt.{signed_decimal}
use Rattle.cue_row.specs.declared.level.Level.{Level}
use Rattle.cue_row.specs.declared.level.Level.TheVariants.{Optional, Required, Given}
use Rattle.cue_row.specs.Quoted.{quote_text}
use Rattle.cue_print.specs.Expressions.{PrintedTerm, null, truths, truth, integers, number, at_most}
use Rattle.cue_print.specs.Expressions.{at_least, between, texts, text, other_texts}
use Rattle.cue_print.specs.Expressions.{Value, top, scalar, all, Parts, no_parts, struct, close}
use Rattle.cue_print.specs.Expressions.{list, bottom}
use Rattle.cue_print.specs.Expressions.{Fields, no_more, field, Elements, no_elements, element}
use Rattle.cue_print.specs.Expressions.{Ending, ends, goes_on, goes_on_as}

-- the texts, with a separator between each two
abbrev pub join_texts : List ℕ → List (List ℕ) → List ℕ
join_texts separator [] = []
join_texts separator (first ∷ others) = first ++ flat_map (λ other. separator ++ other) others

-- a text between two others
abbrev pub enclose_text : List ℕ → List ℕ → List ℕ → List ℕ
enclose_text before inner after = before ++ (inner ++ after)

-- ---- scalars
abbrev pub spell_unequal : List ℕ → List ℕ
spell_unequal t = codes "!=" ++ quote_text t

unfoldable pub term_text : PrintedTerm → List ℕ
term_text null = codes "null"
term_text truths = codes "bool"
term_text (truth false) = codes "false"
term_text (truth true) = codes "true"
term_text integers = codes "int"
term_text (number n) = signed_decimal n
term_text (at_most n) = codes "<=" ++ signed_decimal n
term_text (at_least n) = codes ">=" ++ signed_decimal n
term_text (between m n) = codes ">=" ++ (signed_decimal m ++ (codes " & <=" ++ signed_decimal n))
term_text texts = codes "string"
term_text (text t) = quote_text t
term_text (other_texts ts) = join_texts (codes " & ") (map spell_unequal ts)

-- the disjunction of some terms; that of no term lets nothing stand
unfoldable pub terms_text : List PrintedTerm → List ℕ
terms_text [] = codes "_|_"
terms_text (term ∷ terms) = join_texts (codes " | ") (map term_text (term ∷ terms))

-- whether a term has `&`
abbrev pub is_conjunction : PrintedTerm → Bool
is_conjunction (between m n) = true
is_conjunction (other_texts (first ∷ second ∷ others)) = true
is_conjunction _ = false

-- whether a disjunction is more than one operand
abbrev pub is_compound : List PrintedTerm → Bool
is_compound [] = false
is_compound (term ∷ []) = is_conjunction term
is_compound (first ∷ second ∷ others) = true

-- a disjunction as one operand
unfoldable pub operand_text : List PrintedTerm → List ℕ
operand_text terms =
    if is_compound terms then enclose_text (codes "(") (terms_text terms) (codes ")")
    else terms_text terms

-- the default, marked and in front of other terms
unfoldable pub default_text : Option (List PrintedTerm) → List ℕ
default_text None = []
default_text (Some usual) = enclose_text (codes "*") (operand_text usual) (codes " | ")

-- ---- structs and lists
-- how a label of a level is marked
abbrev pub mark_text : Level → List ℕ
mark_text Optional = codes "?: "
mark_text Required = codes "!: "
mark_text Given = codes ": "

-- a struct literal of some declarations
abbrev pub struct_text : List (List ℕ) → List ℕ
struct_text declarations = enclose_text (codes "{") (join_texts (codes ", ") declarations) (codes "}")

-- a list literal of some elements and what ends them
abbrev pub list_text : List (List ℕ) → List ℕ
list_text elements = enclose_text (codes "[") (join_texts (codes ", ") elements) (codes "]")

unfoldable mutual
  pub value_text : Value → List ℕ
  value_text top = codes "_"
  value_text (scalar usual terms) = default_text usual ++ terms_text terms
  value_text (all parts) = join_texts (codes " & ") (part_texts parts)

  pub part_texts : Parts → List (List ℕ)
  part_texts no_parts = []
  part_texts (struct fields parts) = struct_text (field_texts fields) ∷ part_texts parts
  part_texts (close fields parts) =
      enclose_text (codes "close(") (struct_text (field_texts fields)) (codes ")") ∷ part_texts parts
  part_texts (list elements ending parts) =
      list_text (element_texts elements ++ ending_texts ending) ∷ part_texts parts
  part_texts (bottom parts) = codes "_|_" ∷ part_texts parts

  pub field_texts : Fields → List (List ℕ)
  field_texts no_more = []
  field_texts (field label level value fields) =
      (quote_text label ++ (mark_text level ++ value_text value)) ∷ field_texts fields

  pub element_texts : Elements → List (List ℕ)
  element_texts no_elements = []
  element_texts (element value elements) = value_text value ∷ element_texts elements

  pub ending_texts : Ending → List (List ℕ)
  ending_texts ends = []
  ending_texts goes_on = codes "..." ∷ []
  ending_texts (goes_on_as value) = (codes "..." ++ value_text value) ∷ []

-- ---- files
abbrev pub line : List ℕ → List ℕ
line t = t ++ codes "\n"

-- the file of some declarations, each in a line; without them, `_`
unfoldable pub file_text : Option Fields → List ℕ
file_text None = line (value_text top)
file_text (Some fields) = flat_map line (field_texts fields)
