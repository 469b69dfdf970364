-- The tree that a table is printed as has no places.
use Rattle.std.proofs.Common.{◌≡◌, ℕ, Bool, true, false, List, [], ◌∷◌, map, Option, None, Some, refl, ap, ap₂, if◌then◌else◌}
use Rattle.cue_syntax.specs.Syntax as grammar
use Rattle.cue_syntax.specs.Unplaced.{unplaced, unplaced_elements, unplaced_rest, unplaced_branches, unplaced_entries, unplaced_file}
use Rattle.cue_print.specs.Expressions.{PrintedTerm, null, truths, truth, integers, number, at_most, at_least, between, texts, text, other_texts}
use Rattle.cue_print.specs.Expressions.{Value, top, scalar, all, Parts, no_parts, struct, close, list, bottom, Fields, no_more, field, Elements, no_elements, element, Ending, ends, goes_on, goes_on_as}
use Rattle.cue_print.specs.Spelled.{is_compound}
use Rattle.print_laws.specs.PrintedTree.{unified_expression, label_of, term_tree, printed_branches, terms_branches, terms_tree, operand_tree, scalar_tree, value_tree, part_trees, field_trees, element_trees, ending_tree, has_some, printed_file_tree}

bare_texts : (ts : List (List ℕ)) → unplaced_elements (grammar.elements_of (map grammar.other_text ts)) ≡ grammar.elements_of (map grammar.other_text ts)
bare_texts [] = refl
bare_texts (t ∷ ts) = ap (λ es. grammar.element (grammar.other_text t) es) (bare_texts ts)

bare_unified : (es : grammar.Elements) → unplaced_elements es ≡ es → unplaced (unified_expression es) ≡ unified_expression es
bare_unified grammar.no_elements same = refl
bare_unified (grammar.element e grammar.no_elements) same = cc
bare_unified (grammar.element d (grammar.element e es)) same = ap grammar.conjunction same

bare_term : (term : PrintedTerm) → unplaced (term_tree term) ≡ term_tree term
unfolding term_tree
bare_term null = refl
bare_term truths = refl
bare_term (truth false) = refl
bare_term (truth true) = refl
bare_term integers = refl
bare_term (number n) = refl
bare_term (at_most n) = refl
bare_term (at_least n) = refl
bare_term (between m n) = refl
bare_term texts = refl
bare_term (text t) = refl
bare_term (other_texts ts) = bare_unified (grammar.elements_of (map grammar.other_text ts)) (bare_texts ts)

bare_branches : (terms : List PrintedTerm) → unplaced_branches (printed_branches terms) ≡ printed_branches terms
bare_branches [] = refl
bare_branches (term ∷ terms) = ap₂ (λ e bs. grammar.next_branch (grammar.branch false 0 e) bs) (bare_term term) (bare_branches terms)

bare_terms_branches : (terms : List PrintedTerm) → unplaced_branches (terms_branches terms) ≡ terms_branches terms
bare_terms_branches [] = refl
bare_terms_branches (term ∷ terms) = bare_branches (term ∷ terms)

bare_terms : (terms : List PrintedTerm) → unplaced (terms_tree terms) ≡ terms_tree terms
unfolding terms_tree
bare_terms [] = refl
bare_terms (term ∷ []) = bare_term term
bare_terms (first ∷ second ∷ others) = ap grammar.disjunction (bare_branches (first ∷ second ∷ others))

bare_operand_by : (terms : List PrintedTerm) (compound : Bool) → unplaced (if compound then grammar.parenthesis (terms_tree terms) false else terms_tree terms) ≡ (if compound then grammar.parenthesis (terms_tree terms) false else terms_tree terms)
bare_operand_by terms true = ap (λ e. grammar.parenthesis e false) (bare_terms terms)
bare_operand_by terms false = bare_terms terms

bare_operand : (terms : List PrintedTerm) → unplaced (operand_tree terms) ≡ operand_tree terms
unfolding operand_tree
bare_operand terms = bare_operand_by terms (is_compound terms)

bare_scalar : (usual : Option (List PrintedTerm)) (terms : List PrintedTerm) → unplaced (scalar_tree usual terms) ≡ scalar_tree usual terms
unfolding scalar_tree
bare_scalar None terms = bare_terms terms
bare_scalar (Some usual) terms = ap₂ (λ e bs. grammar.disjunction (grammar.next_branch (grammar.branch true 0 e) bs)) (bare_operand usual) (bare_terms_branches terms)

mutual
  unfolding value_tree

  bare_value : (value : Value) → unplaced (value_tree value) ≡ value_tree value
  bare_value top = refl
  bare_value (scalar usual terms) = bare_scalar usual terms
  bare_value (all parts) = bare_unified (part_trees parts) (bare_parts parts)

  bare_parts : (parts : Parts) → unplaced_elements (part_trees parts) ≡ part_trees parts
  bare_parts no_parts = refl
  bare_parts (struct fields parts) = ap₂ (λ fs es. grammar.element (grammar.struct fs false) es) (bare_fields fields) (bare_parts parts)
  bare_parts (close fields parts) = ap₂ (λ fs es. grammar.element (grammar.close 0 fs false false) es) (bare_fields fields) (bare_parts parts)
  bare_parts (list elements ending parts) = ap₂ grammar.element (ap₂ (λ ls rest. grammar.list ls rest false) (bare_elements elements) (bare_ending ending)) (bare_parts parts)
  bare_parts (bottom parts) = ap (λ es. grammar.element grammar.bottom es) (bare_parts parts)

  pub bare_fields : (fields : Fields) → unplaced_entries (field_trees fields) ≡ field_trees fields
  bare_fields no_more = refl
  bare_fields (field label level value fields) = ap₂ (λ e es. grammar.entry (grammar.field (label_of label level) [] e) es) (bare_value value) (bare_fields fields)

  bare_elements : (elements : Elements) → unplaced_elements (element_trees elements) ≡ element_trees elements
  bare_elements no_elements = refl
  bare_elements (element value elements) = ap₂ grammar.element (bare_value value) (bare_elements elements)

  bare_ending : (ending : Ending) → unplaced_rest (ending_tree ending) ≡ ending_tree ending
  bare_ending ends = refl
  bare_ending goes_on = refl
  bare_ending (goes_on_as value) = ap grammar.each_rest (bare_value value)

-- The tree of a printed file has no places.
pub unplaced_already : (fields : Fields) → unplaced_file (printed_file_tree fields) ≡ printed_file_tree fields
unfolding printed_file_tree
unplaced_already fields = ap (λ es. record { package_clause = None; declarations = es; comma = has_some fields }) (bare_fields fields)
