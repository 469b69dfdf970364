-- The recogniser takes whatever the grammar spells: each part of a tree uses up its goal.
use Rattle.std.proofs.Common.{◌≡◌, ◌+◌, max, Bool, false, length, List, ◌∷◌, ◌++◌, flat_map}
use Rattle.cue_lex.specs.declared.token.Token.{Token}
use Rattle.cue_lex.specs.declared.token.TokenKind.TheVariants as kinds
use Rattle.cue_lex.specs.declared.punctuation.Punctuation.TheVariants as points
use Rattle.cue_syntax.specs.declared.tree.Label.{Label}
use Rattle.cue_syntax.specs.Syntax.{Expression, name, integer, text, bottom, bound, other_integer, other_text, parenthesis, struct, close, list, conjunction, disjunction, Elements, no_elements, element, Branch, branch, Branches, no_branches, next_branch, Entry, ellipsis, field, definition, Entries, no_entries, entry, Rest, no_rest, any_rest, each_rest}
use Rattle.cue_syntax.specs.Spelling.{SpellsTree, one, comma_if, spell, spell_label, spell_elements, spell_rest, spell_branch, spell_entry, spell_entries}
use Rattle.cue_syntax.specs.Grammar.{Limit, Within, IsRight, IsUnary, IsConjunct, AreRight, IsRightRest, AreNested, IsRightBranch, AreRightBranches, IsRightEntry, AreRightEntries, EndsEntries, EndsElements, levels, levels_of_branch, levels_of_elements, levels_of_rest, levels_of_entry, levels_of_entries}
use Rattle.cue_syntax.specs.Recogniser.{Stack, rest_where_stuck, depth, entries, more_entries, value, expression, term, unary, more_parts, elements}
use Rattle.cue_syntax.proofs.WhatMayFollow.{EndsExpression, EndsTerm, EndsOperand}
use Rattle.cue_syntax.proofs.TakesOperands.{Takes, TakeAll, TakesBranch, TakeBranches, by_unary, named, number, word, nothing, bounded, other_number, other_word, in_parentheses, takes_conjunction, takes_term, takes_disjunction}
use Rattle.cue_syntax.proofs.TakesDeclarations.{TakesRest, TakesEntry, TakeEntries, FitsTop, takes_value, takes_entry, takes_braces, takes_in_brackets, takes_struct, takes_close, takes_list}

mutual
  pub takes : (e : Expression) → IsRight e → Takes e
  takes (name n from) right = by_unary (name n from) right tt (named n from right)
  takes (integer n) right = by_unary (integer n) right tt (number n right)
  takes (text t) right = by_unary (text t) right tt (word t)
  takes bottom right = by_unary bottom right tt nothing
  takes (bound c n) right = by_unary (bound c n) right tt (bounded c n right)
  takes (other_integer n) right = by_unary (other_integer n) right tt (other_number n right)
  takes (other_text t) right = by_unary (other_text t) right tt (other_word t)
  takes (parenthesis e comma) right = by_unary (parenthesis e comma) right tt (in_parentheses e comma (takes e right))
  takes (struct es comma) right = by_unary (struct es comma) right tt (takes_struct es comma (take_entries es right.0) right)
  takes (close from es inner comma) right = by_unary (close from es inner comma) right tt (takes_close from es inner comma (take_entries es right.0) right)
  takes (list es tail comma) right = by_unary (list es tail comma) right tt (takes_list es tail comma (take_all es right.0) (takes_rest tail right.1) right)
  takes (conjunction es) right = takes_conjunction es (take_all es right.0) right
  takes (disjunction bs) right = takes_disjunction bs (take_branches bs right.0) right

  pub take_all : (es : Elements) → AreRight es → TakeAll es
  take_all no_elements right = tt
  take_all (element e es) right = (takes e right.0, take_all es right.1)

  pub takes_rest : (tail : Rest) → IsRightRest tail → TakesRest tail
  takes_rest no_rest right = tt
  takes_rest any_rest right = tt
  takes_rest (each_rest e) right = takes e right

  pub takes_branch : (b : Branch) → IsRightBranch b → TakesBranch b
  takes_branch (branch marked from e) right = takes e right.0

  pub take_branches : (bs : Branches) → AreRightBranches bs → TakeBranches bs
  take_branches no_branches right = tt
  take_branches (next_branch b bs) right = (takes_branch b right.0, take_branches bs right.1)

  pub takes_declaration : (e : Entry) → IsRightEntry e → TakesEntry e
  takes_declaration ellipsis right = tt
  takes_declaration (field label chain e) right = takes e right
  takes_declaration (definition t from chain e) right = takes e right

  pub take_entries : (es : Entries) → AreRightEntries es → TakeEntries es
  take_entries no_entries right = tt
  take_entries (entry e es) right = (takes_declaration e right.0, take_entries es right.1)

-- an operand, a bound
pub takes_unary : (limit : Limit) (below : Stack) {a b : List Token} (e : Expression) → SpellsTree a (spell e) b → IsRight e → IsUnary e → EndsOperand b → Within limit (depth below + levels e)
    → rest_where_stuck limit (unary ∷ below) a ≡ rest_where_stuck limit below b
takes_unary limit below e reads right is end within = (takes e right).operand is limit below _ _ reads end within

-- such ones with `&` between
pub takes_conjunct : (limit : Limit) (below : Stack) {a b : List Token} (e : Expression) → SpellsTree a (spell e) b → IsRight e → IsConjunct e → EndsTerm b → Within limit (depth below + levels e)
    → rest_where_stuck limit (unary ∷ more_parts ∷ below) a ≡ rest_where_stuck limit below b
takes_conjunct limit below e reads right is end within = (takes e right).conjunct is limit below _ _ reads end within

-- a term of a disjunction
pub takes_term_of : (limit : Limit) (below : Stack) {a b : List Token} (c : Branch) → SpellsTree a (spell_branch c) b → IsRightBranch c → EndsTerm b → Within limit (depth below + levels_of_branch c)
    → rest_where_stuck limit (term ∷ below) a ≡ rest_where_stuck limit below b
takes_term_of limit below c reads right end within = takes_term c (takes_branch c right) right limit below _ _ reads end within

-- an expression by itself
pub takes_expression : (limit : Limit) (below : Stack) {a b : List Token} (e : Expression) → SpellsTree a (spell e) b → IsRight e → EndsExpression b → Within limit (depth below + levels e)
    → rest_where_stuck limit (expression ∷ below) a ≡ rest_where_stuck limit below b
takes_expression limit below e reads right end within = (takes e right).whole limit below _ _ reads end within

-- a chain of labels, and then an expression
pub takes_chain : (limit : Limit) (below : Stack) {a b : List Token} (chain : List Label) (e : Expression) → SpellsTree a (flat_map spell_label chain ++ spell e) b → IsRight e → EndsExpression b
    → Within limit (depth below + (length chain + levels e)) → rest_where_stuck limit (value ∷ below) a ≡ rest_where_stuck limit below b
takes_chain limit below chain e reads right end within = takes_value chain e (takes e right) right limit below _ _ reads end within

-- a declaration, at the top or in braces
pub takes_one_entry : (limit : Limit) (top : Bool) (below : Stack) {a b : List Token} (e : Entry) → SpellsTree a (spell_entry e) b → IsRightEntry e → FitsTop top e → EndsExpression b
    → Within limit (depth (more_entries top ∷ below) + levels_of_entry e) → rest_where_stuck limit (entries top ∷ below) a ≡ rest_where_stuck limit (more_entries top ∷ below) b
takes_one_entry limit top below e reads right fits end within = takes_entry top e (takes_declaration e right) right fits limit below _ _ reads end within

-- declarations, a comma or none, and the brace
pub takes_nested : (limit : Limit) (below : Stack) {a b : List Token} (es : Entries) (comma : Bool) → SpellsTree a (spell_entries es ++ comma_if comma ++ one (kinds.Mark points.CloseBrace)) b
    → AreRightEntries es → AreNested es → EndsEntries comma es → Within limit (depth below + (1 + levels_of_entries es)) → rest_where_stuck limit (entries false ∷ below) a ≡ rest_where_stuck limit below b
takes_nested limit below es comma reads right nested ends within = takes_braces es comma (take_entries es right) right nested ends limit below _ _ reads within

-- elements, their rest, a comma or none, and the bracket
pub takes_row : (limit : Limit) (below : Stack) {a b : List Token} (es : Elements) (tail : Rest) (comma : Bool)
    → SpellsTree a (spell_elements (kinds.Mark points.Comma) es ++ spell_rest es tail ++ comma_if comma ++ one (kinds.Mark points.CloseBracket)) b → AreRight es → IsRightRest tail → EndsElements comma tail es
    → Within limit (depth below + (1 + max (levels_of_elements es) (levels_of_rest tail))) → rest_where_stuck limit (elements ∷ below) a ≡ rest_where_stuck limit below b
takes_row limit below es tail comma reads right each ends within = takes_in_brackets es tail comma (take_all es right) (takes_rest tail each) (right, each, ends) limit below _ _ reads within
