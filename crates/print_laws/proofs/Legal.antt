-- The tree that a table is printed as passes the checks of names, definitions and scalars.
use Rattle.std.proofs.Common.{◌≡◌, ℕ, ◌&&◌, Bool, true, false, List, [], ◌∷◌, map, Option, None, Some, refl, sym, subst, ◌∙◌, append-nil, codes, cond, if◌then◌else◌}
use Rattle.std.proofs.lemmas.Bool.{and_parts}
use Rattle.cue_syntax.specs.Syntax as grammar
use Rattle.cue_scope.specs.Core.{Core, is_scalar, are_scalar, are_scalar_choices}
use Rattle.cue_scope.specs.Definitions.{definitions}
use Rattle.cue_scope.specs.Graph.{IsNodeIn, IsReached, start, go_on}
use Rattle.cue_scope.specs.Meaning.{meant, meant_elements, meant_branches}
use Rattle.cue_scope.specs.Names.{Scope, has_label, scope_inside, faults, faults_of_elements, faults_of_rest, faults_of_branches, faults_of_entries}
use Rattle.cue_scope.specs.Terms.{terms, terms_of_elements, terms_of_rest, terms_of_branches, terms_of_entries}
use Rattle.cue_print.specs.Expressions.{PrintedTerm, null, truths, truth, integers, number, at_most, at_least, between, texts, text, other_texts}
use Rattle.cue_print.specs.Expressions.{Value, top, scalar, all, Parts, no_parts, struct, close, list, bottom, Fields, no_more, field, Elements, no_elements, element, Ending, ends, goes_on, goes_on_as}
use Rattle.cue_print.specs.Spelled.{is_compound}
use Rattle.print_laws.specs.PrintedTree.{unified_expression, term_tree, printed_branches, terms_branches, terms_tree, operand_tree, scalar_tree, value_tree, part_trees, field_trees, element_trees, ending_tree}
use Rattle.print_laws.proofs.Places.{both_none}

-- no label is in scope
abbrev IsOpen : Scope → Type 0
IsOpen scope = (t : List ℕ) → scope t ≡ false

-- all labels are quoted
no_label : (t : List ℕ) (fields : Fields) → has_label t (field_trees fields) ≡ false
unfolding field_trees
no_label t no_more = refl
no_label t (field l level value fields) = no_label t fields

pub open_inside : (fields : Fields) (scope : Scope) → IsOpen scope → IsOpen (scope_inside (field_trees fields) scope)
open_inside fields scope open_scope t = let none = no_label t fields in let out = open_scope t in rw (none, out) refl

-- ---- names
others_named : (ts : List (List ℕ)) (scope : Scope) → faults_of_elements [] scope (grammar.elements_of (map grammar.other_text ts)) ≡ []
others_named [] scope = refl
others_named (t ∷ ts) scope = others_named ts scope

unified_named : (es : grammar.Elements) (scope : Scope) → faults_of_elements [] scope es ≡ [] → faults [] scope (unified_expression es) ≡ []
unified_named grammar.no_elements scope none = refl
unified_named (grammar.element e grammar.no_elements) scope none = sym (append-nil (faults [] scope e)) ∙ none
unified_named (grammar.element d (grammar.element e es)) scope none = none

term_named : (term : PrintedTerm) (scope : Scope) → IsOpen scope → faults [] scope (term_tree term) ≡ []
unfolding term_tree
term_named null scope out = refl
term_named truths scope out = let unseen = out (codes "bool") in rw unseen refl
term_named (truth false) scope out = refl
term_named (truth true) scope out = refl
term_named integers scope out = let unseen = out (codes "int") in rw unseen refl
term_named (number n) scope out = refl
term_named (at_most n) scope out = refl
term_named (at_least n) scope out = refl
term_named (between m n) scope out = refl
term_named texts scope out = let unseen = out (codes "string") in rw unseen refl
term_named (text t) scope out = refl
term_named (other_texts ts) scope out = unified_named (grammar.elements_of (map grammar.other_text ts)) scope (others_named ts scope)

branches_named : (terms : List PrintedTerm) (scope : Scope) → IsOpen scope → faults_of_branches [] scope (printed_branches terms) ≡ []
branches_named [] scope out = refl
branches_named (term ∷ terms) scope out = both_none (term_named term scope out) (branches_named terms scope out)

terms_branches_named : (terms : List PrintedTerm) (scope : Scope) → IsOpen scope → faults_of_branches [] scope (terms_branches terms) ≡ []
terms_branches_named [] scope out = refl
terms_branches_named (term ∷ terms) scope out = branches_named (term ∷ terms) scope out

terms_named : (terms : List PrintedTerm) (scope : Scope) → IsOpen scope → faults [] scope (terms_tree terms) ≡ []
unfolding terms_tree
terms_named [] scope out = refl
terms_named (term ∷ []) scope out = term_named term scope out
terms_named (first ∷ second ∷ others) scope out = branches_named (first ∷ second ∷ others) scope out

operand_named_by : (terms : List PrintedTerm) (compound : Bool) (scope : Scope) → IsOpen scope → faults [] scope (if compound then grammar.parenthesis (terms_tree terms) false else terms_tree terms) ≡ []
operand_named_by terms true scope out = terms_named terms scope out
operand_named_by terms false scope out = terms_named terms scope out

operand_named : (terms : List PrintedTerm) (scope : Scope) → IsOpen scope → faults [] scope (operand_tree terms) ≡ []
unfolding operand_tree
operand_named terms scope out = operand_named_by terms (is_compound terms) scope out

scalar_named : (usual : Option (List PrintedTerm)) (terms : List PrintedTerm) (scope : Scope) → IsOpen scope → faults [] scope (scalar_tree usual terms) ≡ []
unfolding scalar_tree
scalar_named None terms scope out = terms_named terms scope out
scalar_named (Some usual) terms scope out = both_none (operand_named usual scope out) (terms_branches_named terms scope out)

-- `close` is no label that is in scope
closed_named : (scope : Scope) (es : grammar.Entries) → IsOpen scope → faults_of_entries [] (scope_inside es scope) es ≡ [] → faults [] scope (grammar.close 0 es false false) ≡ []
closed_named scope es out none = let unseen = out (codes "close") in rw unseen none

mutual
  unfolding value_tree

  value_named : (value : Value) (scope : Scope) → IsOpen scope → faults [] scope (value_tree value) ≡ []
  value_named top scope out = refl
  value_named (scalar usual terms) scope out = scalar_named usual terms scope out
  value_named (all parts) scope out = unified_named (part_trees parts) scope (parts_named parts scope out)

  parts_named : (parts : Parts) (scope : Scope) → IsOpen scope → faults_of_elements [] scope (part_trees parts) ≡ []
  parts_named no_parts scope out = refl
  parts_named (struct fields parts) scope out = both_none (fields_named fields (scope_inside (field_trees fields) scope) (open_inside fields scope out)) (parts_named parts scope out)
  parts_named (close fields parts) scope out = both_none (closed_named scope (field_trees fields) out (fields_named fields (scope_inside (field_trees fields) scope) (open_inside fields scope out))) (parts_named parts scope out)
  parts_named (list elements ending parts) scope out = both_none (both_none (elements_named elements scope out) (ending_named ending scope out)) (parts_named parts scope out)
  parts_named (bottom parts) scope out = parts_named parts scope out

  pub fields_named : (fields : Fields) (scope : Scope) → IsOpen scope → faults_of_entries [] scope (field_trees fields) ≡ []
  fields_named no_more scope out = refl
  fields_named (field label level value fields) scope out = both_none (value_named value scope out) (fields_named fields scope out)

  elements_named : (elements : Elements) (scope : Scope) → IsOpen scope → faults_of_elements [] scope (element_trees elements) ≡ []
  elements_named no_elements scope out = refl
  elements_named (element value elements) scope out = both_none (value_named value scope out) (elements_named elements scope out)

  ending_named : (ending : Ending) (scope : Scope) → IsOpen scope → faults_of_rest [] scope (ending_tree ending) ≡ []
  ending_named ends scope out = refl
  ending_named goes_on scope out = refl
  ending_named (goes_on_as value) scope out = value_named value scope out

-- ---- definitions
pub no_definitions : (fields : Fields) → definitions (field_trees fields) ≡ []
unfolding field_trees
no_definitions no_more = refl
no_definitions (field label level value fields) = no_definitions fields

-- from no node nothing is reached
pub none_reached : (from : List ℕ) (i : ℕ) → from ≡ [] → IsReached [] from i → ⊥
none_reached from i none (start j is) = absurd (subst (IsNodeIn i) none is)
none_reached from i none (go_on j k reached points) = none_reached from j none reached

-- ---- scalars
-- what a scalar term means, and that no term in it is one of something else
record IsScalarTree (meaning : ℕ → Core) (e : grammar.Expression) : Type 0 where
  pub scalar : is_scalar (meant [] meaning e) ≡ true
  pub terms : terms [] meaning e ≡ []

record AreScalarTrees (meaning : ℕ → Core) (es : grammar.Elements) : Type 0 where
  pub scalar : are_scalar (meant_elements [] meaning es) ≡ true
  pub terms : terms_of_elements [] meaning es ≡ []

record AreScalarBranches (meaning : ℕ → Core) (bs : grammar.Branches) : Type 0 where
  pub scalar : are_scalar_choices (meant_branches [] meaning bs) ≡ true
  pub terms : terms_of_branches [] meaning bs ≡ []

and_both : {a b : Bool} → a ≡ true → b ≡ true → (a && b) ≡ true
and_both left right = rw (left, right) refl

no_place : (is : Bool) (place : ℕ) → is ≡ true → cond is [] (place ∷ []) ≡ []
no_place is place same = rw same refl

module _ (meaning : ℕ → Core) where
  others_scalar : (ts : List (List ℕ)) → AreScalarTrees meaning (grammar.elements_of (map grammar.other_text ts))
  others_scalar [] = record { scalar = refl; terms = refl }
  others_scalar (t ∷ ts) = let more = others_scalar ts in record { scalar = more.scalar; terms = more.terms }

  unified_scalar : (es : grammar.Elements) → AreScalarTrees meaning es → IsScalarTree meaning (unified_expression es)
  unified_scalar grammar.no_elements are = record { scalar = are.scalar; terms = are.terms }
  unified_scalar (grammar.element e grammar.no_elements) are = record { scalar = (and_parts (is_scalar (meant [] meaning e)) true are.scalar).0; terms = sym (append-nil (terms [] meaning e)) ∙ are.terms }
  unified_scalar (grammar.element d (grammar.element e es)) are = record { scalar = are.scalar; terms = are.terms }

  term_scalar : (term : PrintedTerm) → IsScalarTree meaning (term_tree term)
  unfolding term_tree
  term_scalar null = record { scalar = refl; terms = refl }
  term_scalar truths = record { scalar = refl; terms = refl }
  term_scalar (truth false) = record { scalar = refl; terms = refl }
  term_scalar (truth true) = record { scalar = refl; terms = refl }
  term_scalar integers = record { scalar = refl; terms = refl }
  term_scalar (number n) = record { scalar = refl; terms = refl }
  term_scalar (at_most n) = record { scalar = refl; terms = refl }
  term_scalar (at_least n) = record { scalar = refl; terms = refl }
  term_scalar (between m n) = record { scalar = refl; terms = refl }
  term_scalar texts = record { scalar = refl; terms = refl }
  term_scalar (text t) = record { scalar = refl; terms = refl }
  term_scalar (other_texts ts) = unified_scalar (grammar.elements_of (map grammar.other_text ts)) (others_scalar ts)

  -- one scalar branch more
  branch_scalar : (marked : Bool) (e : grammar.Expression) (bs : grammar.Branches) → IsScalarTree meaning e → AreScalarBranches meaning bs → AreScalarBranches meaning (grammar.next_branch (grammar.branch marked 0 e) bs)
  branch_scalar marked e bs here more = record {
    scalar = and_both here.scalar more.scalar;
    terms = both_none (both_none (no_place (is_scalar (meant [] meaning e)) 0 here.scalar) here.terms) more.terms;
  }

  branches_scalar : (terms : List PrintedTerm) → AreScalarBranches meaning (printed_branches terms)
  branches_scalar [] = record { scalar = refl; terms = refl }
  branches_scalar (term ∷ terms) = branch_scalar false (term_tree term) (printed_branches terms) (term_scalar term) (branches_scalar terms)

  bottom_scalar : IsScalarTree meaning grammar.bottom
  bottom_scalar = record { scalar = refl; terms = refl }

  terms_branches_scalar : (terms : List PrintedTerm) → AreScalarBranches meaning (terms_branches terms)
  terms_branches_scalar [] = branch_scalar false grammar.bottom grammar.no_branches bottom_scalar (record { scalar = refl; terms = refl })
  terms_branches_scalar (term ∷ terms) = branches_scalar (term ∷ terms)

  disjunction_scalar : (bs : grammar.Branches) → AreScalarBranches meaning bs → IsScalarTree meaning (grammar.disjunction bs)
  disjunction_scalar bs are = record { scalar = are.scalar; terms = are.terms }

  terms_scalar : (terms : List PrintedTerm) → IsScalarTree meaning (terms_tree terms)
  unfolding terms_tree
  terms_scalar [] = bottom_scalar
  terms_scalar (term ∷ []) = term_scalar term
  terms_scalar (first ∷ second ∷ others) = disjunction_scalar (printed_branches (first ∷ second ∷ others)) (branches_scalar (first ∷ second ∷ others))

  operand_scalar_by : (terms : List PrintedTerm) (compound : Bool) → IsScalarTree meaning (if compound then grammar.parenthesis (terms_tree terms) false else terms_tree terms)
  operand_scalar_by terms true = let is = terms_scalar terms in record { scalar = is.scalar; terms = is.terms }
  operand_scalar_by terms false = terms_scalar terms

  operand_scalar : (terms : List PrintedTerm) → IsScalarTree meaning (operand_tree terms)
  unfolding operand_tree
  operand_scalar terms = operand_scalar_by terms (is_compound terms)

  scalar_scalar : (usual : Option (List PrintedTerm)) (terms : List PrintedTerm) → IsScalarTree meaning (scalar_tree usual terms)
  unfolding scalar_tree
  scalar_scalar None terms = terms_scalar terms
  scalar_scalar (Some usual) terms =
      disjunction_scalar (grammar.next_branch (grammar.branch true 0 (operand_tree usual)) (terms_branches terms)) (branch_scalar true (operand_tree usual) (terms_branches terms) (operand_scalar usual) (terms_branches_scalar terms))

unified_terms : (meaning : ℕ → Core) (es : grammar.Elements) → terms_of_elements [] meaning es ≡ [] → terms [] meaning (unified_expression es) ≡ []
unified_terms meaning grammar.no_elements none = refl
unified_terms meaning (grammar.element e grammar.no_elements) none = sym (append-nil (terms [] meaning e)) ∙ none
unified_terms meaning (grammar.element d (grammar.element e es)) none = none

mutual
  unfolding value_tree

  value_terms : (value : Value) (meaning : ℕ → Core) → terms [] meaning (value_tree value) ≡ []
  value_terms top meaning = refl
  value_terms (scalar usual terms) meaning = (scalar_scalar meaning usual terms).terms
  value_terms (all parts) meaning = unified_terms meaning (part_trees parts) (parts_terms parts meaning)

  parts_terms : (parts : Parts) (meaning : ℕ → Core) → terms_of_elements [] meaning (part_trees parts) ≡ []
  parts_terms no_parts meaning = refl
  parts_terms (struct fields parts) meaning = both_none (fields_terms fields meaning) (parts_terms parts meaning)
  parts_terms (close fields parts) meaning = both_none (fields_terms fields meaning) (parts_terms parts meaning)
  parts_terms (list elements ending parts) meaning = both_none (both_none (elements_terms elements meaning) (ending_terms ending meaning)) (parts_terms parts meaning)
  parts_terms (bottom parts) meaning = parts_terms parts meaning

  pub fields_terms : (fields : Fields) (meaning : ℕ → Core) → terms_of_entries [] meaning (field_trees fields) ≡ []
  fields_terms no_more meaning = refl
  fields_terms (field label level value fields) meaning = both_none (value_terms value meaning) (fields_terms fields meaning)

  elements_terms : (elements : Elements) (meaning : ℕ → Core) → terms_of_elements [] meaning (element_trees elements) ≡ []
  elements_terms no_elements meaning = refl
  elements_terms (element value elements) meaning = both_none (value_terms value meaning) (elements_terms elements meaning)

  ending_terms : (ending : Ending) (meaning : ℕ → Core) → terms_of_rest [] meaning (ending_tree ending) ≡ []
  ending_terms ends meaning = refl
  ending_terms goes_on meaning = refl
  ending_terms (goes_on_as value) meaning = value_terms value meaning
