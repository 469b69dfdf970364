-- The tree that a table is printed as: that of its printed expressions, with the parentheses that
-- are printed and no places.
use Rattle.std.specs.Prelude.{ℕ, suc, ℤ, pos, negsuc, Bool, true, false, List, [], ◌∷◌, map, Option}
use Rattle.std.specs.Prelude.{None, Some, codes, if◌then◌else◌}
use Rattle.cue_row.specs.declared.level.Level.{Level}
use Rattle.cue_row.specs.declared.level.Level.TheVariants.{Optional, Required, Given}
use Rattle.cue_syntax.specs.declared.tree.Identifier.TheVariants as identifiers
use Rattle.cue_syntax.specs.declared.tree.Label.{Label}
use Rattle.cue_syntax.specs.declared.tree.LabelName.TheVariants as names
use Rattle.cue_syntax.specs.declared.tree.Mark.{Mark}
use Rattle.cue_syntax.specs.declared.tree.Mark.TheVariants as marks
use Rattle.cue_syntax.specs.declared.tree.Sign.TheVariants as signs
use Rattle.cue_syntax.specs.declared.tree.Signed.{Signed}
use Rattle.cue_syntax.specs.declared.tree.Comparison.TheVariants as comparisons
use Rattle.cue_syntax.specs.Syntax as grammar
use Rattle.cue_syntax.specs.Syntax.{Expression, Branches, FileTree}
use Rattle.cue_print.specs.Expressions.{PrintedTerm, null, truths, truth, integers, number, at_most}
use Rattle.cue_print.specs.Expressions.{at_least, between, texts, text, other_texts}
use Rattle.cue_print.specs.Expressions.{Value, top, scalar, all, Parts, no_parts, struct, close}
use Rattle.cue_print.specs.Expressions.{list, bottom}
use Rattle.cue_print.specs.Expressions.{Fields, no_more, field, Elements, no_elements, element}
use Rattle.cue_print.specs.Expressions.{Ending, ends, goes_on, goes_on_as}
use Rattle.cue_print.specs.Spelled.{is_compound}

-- ---- scalars
-- a name of the language, as `int`
abbrev pub name_expression : List ℕ → Expression
name_expression name = grammar.name (identifiers.Plain name) 0

-- an integer by its sign and its magnitude
abbrev pub signed_of_integer : ℤ → Signed
signed_of_integer (pos n) = record { sign = signs.Absent; magnitude = n }
signed_of_integer (negsuc n) = record { sign = signs.Minus; magnitude = suc n }

abbrev pub at_most_tree : ℤ → Expression
at_most_tree n = grammar.bound comparisons.AtMost (signed_of_integer n)

abbrev pub at_least_tree : ℤ → Expression
at_least_tree n = grammar.bound comparisons.AtLeast (signed_of_integer n)

-- expressions with `&` between them: one stands alone
abbrev pub unified_expression : grammar.Elements → Expression
unified_expression (grammar.element one grammar.no_elements) = one
unified_expression es = grammar.conjunction es

unfoldable pub term_tree : PrintedTerm → Expression
term_tree null = name_expression (codes "null")
term_tree truths = name_expression (codes "bool")
term_tree (truth false) = name_expression (codes "false")
term_tree (truth true) = name_expression (codes "true")
term_tree integers = name_expression (codes "int")
term_tree (number n) = grammar.integer (signed_of_integer n)
term_tree (at_most n) = at_most_tree n
term_tree (at_least n) = at_least_tree n
term_tree (between m n) =
    grammar.conjunction
    (grammar.element (at_least_tree m) (grammar.element (at_most_tree n) grammar.no_elements))
term_tree texts = name_expression (codes "string")
term_tree (text t) = grammar.text t
term_tree (other_texts ts) = unified_expression (grammar.elements_of (map grammar.other_text ts))

-- the branches of some terms
abbrev pub printed_branches : List PrintedTerm → Branches
printed_branches [] = grammar.no_branches
printed_branches (term ∷ terms) =
    grammar.next_branch (grammar.branch false 0 (term_tree term)) (printed_branches terms)

-- those of a disjunction: no term lets nothing stand
abbrev pub terms_branches : List PrintedTerm → Branches
terms_branches [] =
    grammar.next_branch (grammar.branch false 0 grammar.bottom) grammar.no_branches
terms_branches (term ∷ terms) = printed_branches (term ∷ terms)

-- the disjunction of some terms: one stands alone
unfoldable pub terms_tree : List PrintedTerm → Expression
terms_tree [] = grammar.bottom
terms_tree (term ∷ []) = term_tree term
terms_tree (first ∷ second ∷ others) = grammar.disjunction (printed_branches (first ∷ second ∷ others))

-- a disjunction as one operand
unfoldable pub operand_tree : List PrintedTerm → Expression
operand_tree terms =
    if is_compound terms then grammar.parenthesis (terms_tree terms) false else terms_tree terms

-- a disjunction with its default
unfoldable pub scalar_tree : Option (List PrintedTerm) → List PrintedTerm → Expression
scalar_tree None terms = terms_tree terms
scalar_tree (Some usual) terms =
    grammar.disjunction
    (grammar.next_branch (grammar.branch true 0 (operand_tree usual)) (terms_branches terms))

-- ---- structs and lists
-- how a label of a level is marked
abbrev pub label_mark : Level → Mark
label_mark Optional = marks.Optional
label_mark Required = marks.Required
label_mark Given = marks.Regular

-- a quoted label
abbrev pub label_of : List ℕ → Level → Label
label_of label level = record { name = names.Quoted label; mark = label_mark level }

unfoldable mutual
  pub value_tree : Value → Expression
  value_tree top = grammar.name (identifiers.Hidden (codes "_")) 0
  value_tree (scalar usual terms) = scalar_tree usual terms
  value_tree (all parts) = unified_expression (part_trees parts)

  pub part_trees : Parts → grammar.Elements
  part_trees no_parts = grammar.no_elements
  part_trees (struct fields parts) =
      grammar.element (grammar.struct (field_trees fields) false) (part_trees parts)
  part_trees (close fields parts) =
      grammar.element (grammar.close 0 (field_trees fields) false false) (part_trees parts)
  part_trees (list elements ending parts) =
      grammar.element (grammar.list (element_trees elements) (ending_tree ending) false)
      (part_trees parts)
  part_trees (bottom parts) = grammar.element grammar.bottom (part_trees parts)

  pub field_trees : Fields → grammar.Entries
  field_trees no_more = grammar.no_entries
  field_trees (field label level value fields) =
      grammar.entry (grammar.field (label_of label level) [] (value_tree value)) (field_trees fields)

  pub element_trees : Elements → grammar.Elements
  element_trees no_elements = grammar.no_elements
  element_trees (element value elements) =
      grammar.element (value_tree value) (element_trees elements)

  -- `...` at the end of a list, where it goes on, and what each further element is
  pub ending_tree : Ending → grammar.Rest
  ending_tree ends = grammar.no_rest
  ending_tree goes_on = grammar.any_rest
  ending_tree (goes_on_as value) = grammar.each_rest (value_tree value)

-- ---- files
-- whether there is a declaration: a comma is inserted behind the last one
abbrev pub has_some : Fields → Bool
has_some no_more = false
has_some (field label level value fields) = true

-- the file of some declarations, each in a line
unfoldable pub printed_file_tree : Fields → FileTree
printed_file_tree fields = record {
  package_clause = None;
  declarations = field_trees fields;
  comma = has_some fields;
}
