-- What the parts of an expression use up: literals, parentheses, conjunctions and disjunctions.
use Rattle.std.proofs.Common.{◌≡◌, ◌+◌, ◌∙◌, ap, refl, arith, ℕ, max, Bool, true, false, List, ◌∷◌, ◌++◌, Some}
use Rattle.std.specs.Prelude.{⊤}
use Rattle.cue_lex.specs.declared.token.Token.{Token}
use Rattle.cue_lex.specs.declared.token.TokenKind.{TokenKind}
use Rattle.cue_lex.specs.declared.token.TokenKind.TheVariants as kinds
use Rattle.cue_lex.specs.declared.punctuation.Punctuation.TheVariants as points
use Rattle.cue_syntax.specs.declared.tree.Identifier.{Identifier}
use Rattle.cue_syntax.specs.declared.tree.Identifier.TheVariants as identifiers
use Rattle.cue_syntax.specs.declared.tree.Comparison.{Comparison}
use Rattle.cue_syntax.specs.declared.tree.Comparison.TheVariants as comparisons
use Rattle.cue_syntax.specs.declared.tree.Signed.{Signed}
use Rattle.cue_syntax.specs.Syntax.{Expression, name, integer, text, bottom, bound, other_integer, other_text, parenthesis, conjunction, disjunction, Elements, no_elements, element, Branch, branch, Branches, no_branches, next_branch}
use Rattle.cue_syntax.specs.Spelling.{SpellsTree, one, place_first, comma_if, comparison_kind, spell, spell_signed, spell_more_elements, spell_branch, spell_more_branches}
use Rattle.cue_syntax.specs.Grammar.{Limit, Within, IsRight, IsUnary, IsConjunct, AreUnary, TwoElements, TwoBranches, IsRightBranch, AreRightBranches, levels, levels_of_elements, levels_of_branch, levels_of_branches, IsInRange}
use Rattle.cue_syntax.specs.Recogniser.{Stack, step_stack, rest_where_stuck, depth, expression, term, unary, more_parts, bar, more_terms, signed, signed_or_text}
use Rattle.cue_syntax.specs.Recogniser as goals
use Rattle.cue_syntax.proofs.WhatMayFollow.{HeadIs, BeginsOperand, ClosesExpression, ClosesTerm, ClosesOperand, EndsExpression, EndsTerm, EndsOperand}
use Rattle.cue_syntax.proofs.TakesOneToken.{reads_split, reads_unplaced, at_end_before, begins, ends_term, ends_operand, within_less, took, over_parts, over_terms}
use Rattle.cue_syntax.proofs.TreesBeginSo.{no_keyword, opens_conjunct}
use Rattle.cue_syntax.proofs.TakesSmallPieces.{expression_is_operand, term_is_operand, takes_name, takes_signed, operand_signed, bound_signed, other_signed, closes_parenthesis}

-- what an expression uses up
-- what it uses up as an operand or a bound
abbrev pub TakesUnary : Expression → Type 0
TakesUnary e = (limit : Limit) (below : Stack) (a b : List Token) → SpellsTree a (spell e) b → EndsOperand b → Within limit (depth below + levels e)
    → rest_where_stuck limit (unary ∷ below) a ≡ rest_where_stuck limit below b

-- what it uses up as a part of a disjunction
abbrev pub TakesConjunct : Expression → Type 0
TakesConjunct e = (limit : Limit) (below : Stack) (a b : List Token) → SpellsTree a (spell e) b → EndsTerm b → Within limit (depth below + levels e)
    → rest_where_stuck limit (unary ∷ more_parts ∷ below) a ≡ rest_where_stuck limit below b

-- what it uses up by itself
abbrev pub TakesExpression : Expression → Type 0
TakesExpression e = (limit : Limit) (below : Stack) (a b : List Token) → SpellsTree a (spell e) b → EndsExpression b → Within limit (depth below + levels e)
    → rest_where_stuck limit (expression ∷ below) a ≡ rest_where_stuck limit below b

-- an expression uses up the goal of each place where it may stand
pub record Takes (e : Expression) : Type 0 where
  pub operand : IsUnary e → TakesUnary e
  pub conjunct : IsConjunct e → TakesConjunct e
  pub whole : TakesExpression e

conjunct_by : (e : Expression) → TakesUnary e → TakesConjunct e
conjunct_by e takes limit below a b reads end within =
    takes limit (more_parts ∷ below) a b reads (ends_operand b end) (within_less limit _ (depth below + levels e) (omega arith) within) ∙ over_parts limit below b end

whole_by : (e : Expression) → IsRight e → IsConjunct e → TakesConjunct e → TakesExpression e
whole_by e right conjunct takes limit below a b reads end within =
    expression_is_operand limit below a (begins BeginsOperand (spell e) reads (opens_conjunct e right conjunct))
    ∙ takes limit (more_terms ∷ below) a b reads (ends_term b end) (within_less limit _ (depth below + levels e) (omega arith) within)
    ∙ over_terms limit below b end

-- an expression, no disjunction, that uses up the goal of an operand does so wherever it may stand
pub by_unary : (e : Expression) → IsRight e → IsConjunct e → TakesUnary e → Takes e
by_unary e right conjunct takes = record {
  operand = λ is. takes;
  conjunct = λ is. conjunct_by e takes;
  whole = whole_by e right conjunct (conjunct_by e takes);
}

-- literals
-- an identifier that may be an operand uses up the goal of one
pub named : (n : Identifier) (from : ℕ) → IsRight (name n from) → TakesUnary (name n from)
named (identifiers.Plain t) from right limit below a b reads end within =
    takes_name limit below t (reads_unplaced from (one (kinds.Name t)) reads) (no_keyword t right) end (within_less limit _ (depth below + 0) (omega arith) within)
named (identifiers.Definition t) from right limit below a b reads end within =
    took limit (unary ∷ below) below (reads_unplaced from (one (kinds.Definition t)) reads) refl (within_less limit _ (depth below + 0) (omega arith) within)
named (identifiers.Hidden t) from right limit below a b reads end within =
    took limit (unary ∷ below) below (reads_unplaced from (one (kinds.Hidden t)) reads) refl (within_less limit _ (depth below + 0) (omega arith) within)

comparison_step : (c : Comparison) (below : Stack) → step_stack (unary ∷ below) (comparison_kind c) ≡ Some (signed ∷ below)
comparison_step comparisons.Less below = refl
comparison_step comparisons.AtMost below = refl
comparison_step comparisons.Greater below = refl
comparison_step comparisons.AtLeast below = refl

-- a bound on an integer in range uses up the goal of an operand
pub bounded : (c : Comparison) (n : Signed) → IsInRange n → TakesUnary (bound c n)
bounded c n range limit below a b reads end within =
    let s = reads_split (one (comparison_kind c)) (spell_signed n) reads in
    took limit (unary ∷ below) (signed ∷ below) s.first (comparison_step c below) (within_less limit _ (depth below + 0) (omega arith) within)
    ∙ takes_signed limit (signed ∷ below) below (bound_signed below) n s.second range (within_less limit _ (depth below + 0) (omega arith) within)

-- `!=` with an integer in range uses up the goal of an operand
pub other_number : (n : Signed) → IsInRange n → TakesUnary (other_integer n)
other_number n range limit below a b reads end within =
    let s = reads_split (one (kinds.Mark points.NotEqual)) (spell_signed n) reads in
    took limit (unary ∷ below) (signed_or_text ∷ below) s.first refl (within_less limit _ (depth below + 0) (omega arith) within)
    ∙ takes_signed limit (signed_or_text ∷ below) below (other_signed below) n s.second range (within_less limit _ (depth below + 0) (omega arith) within)

-- `!=` with a string uses up the goal of an operand
pub other_word : (t : List ℕ) → TakesUnary (other_text t)
other_word t limit below a b reads end within =
    let s = reads_split (one (kinds.Mark points.NotEqual)) (one (kinds.Text t)) reads in
    took limit (unary ∷ below) (signed_or_text ∷ below) s.first refl (within_less limit _ (depth below + 0) (omega arith) within)
    ∙ took limit (signed_or_text ∷ below) below s.second refl (within_less limit _ (depth below + 0) (omega arith) within)

-- an integer in range uses up the goal of an operand
pub number : (n : Signed) → IsInRange n → TakesUnary (integer n)
number n range limit below a b reads end within = takes_signed limit (unary ∷ below) below (operand_signed below) n reads range (within_less limit _ (depth below + 0) (omega arith) within)

-- a string uses up the goal of an operand
pub word : (t : List ℕ) → TakesUnary (text t)
word t limit below a b reads end within = took limit (unary ∷ below) below reads refl (within_less limit _ (depth below + 0) (omega arith) within)

-- `_|_` uses up the goal of an operand
pub nothing : TakesUnary bottom
nothing limit below a b reads end within = took limit (unary ∷ below) below reads refl (within_less limit _ (depth below + 0) (omega arith) within)

-- parentheses
-- a comma, where there is one, is a token that may follow an expression
pub head_comma : (comma : Bool) → HeadIs ClosesExpression (comma_if comma)
head_comma true = tt
head_comma false = tt

-- a comma or none, before a token that may follow an expression, may follow one too
pub ends_comma : {a b c : List Token} (comma : Bool) (k : TokenKind) → SpellsTree a (comma_if comma) b → SpellsTree b (one k) c → ClosesExpression k → EndsExpression a
ends_comma comma k first second closes = at_end_before ClosesExpression (comma_if comma) first (head_comma comma) (begins ClosesExpression (one k) second closes)

-- an expression in parentheses uses up the goal of an operand
pub in_parentheses : (e : Expression) (comma : Bool) → Takes e → TakesUnary (parenthesis e comma)
in_parentheses e comma takes limit below a b reads end within =
    let s = reads_split (one (kinds.Mark points.OpenParenthesis)) ((spell e ++ comma_if comma) ++ one (kinds.Mark points.CloseParenthesis)) reads in
    let t = reads_split (spell e ++ comma_if comma) (one (kinds.Mark points.CloseParenthesis)) s.second in
    let u = reads_split (spell e) (comma_if comma) t.first in
    took limit (unary ∷ below) (expression ∷ goals.parenthesis ∷ below) s.first refl (within_less limit _ (depth below + (1 + levels e)) (omega arith) within)
    ∙ takes.whole limit (goals.parenthesis ∷ below) s.between u.between u.first (ends_comma comma (kinds.Mark points.CloseParenthesis) u.second t.second tt)
    (within_less limit _ (depth below + (1 + levels e)) (omega arith) within)
    ∙ closes_parenthesis limit below comma u.second t.second (within_less limit _ (depth below + (1 + levels e)) (omega arith) within)

-- conjunctions
-- each of the parts uses up the goal of each place where it may stand
abbrev pub TakeAll : Elements → Type 0
TakeAll no_elements = ⊤
TakeAll (element e es) = Takes e × TakeAll es

head_parts : (es : Elements) → HeadIs ClosesOperand (spell_more_elements (kinds.Mark points.Ampersand) es)
head_parts no_elements = tt
head_parts (element e es) = tt

parts : (es : Elements) → TakeAll es → AreUnary es → (limit : Limit) (below : Stack) (a b : List Token) → SpellsTree a (spell_more_elements (kinds.Mark points.Ampersand) es) b → EndsTerm b
    → Within limit (depth below + levels_of_elements es) → rest_where_stuck limit (more_parts ∷ below) a ≡ rest_where_stuck limit below b
parts no_elements takes are limit below a b reads end within = ap (rest_where_stuck limit (more_parts ∷ below)) reads.follows ∙ over_parts limit below b end
parts (element e es) takes are limit below a b reads end within =
    let s = reads_split (one (kinds.Mark points.Ampersand)) (spell e ++ spell_more_elements (kinds.Mark points.Ampersand) es) reads in
    let t = reads_split (spell e) (spell_more_elements (kinds.Mark points.Ampersand) es) s.second in
    took limit (more_parts ∷ below) (unary ∷ more_parts ∷ below) s.first refl (within_less limit _ (depth below + max (levels e) (levels_of_elements es)) (omega arith) within)
    ∙ takes.0.operand are.0 limit (more_parts ∷ below) s.between t.between t.first (at_end_before ClosesOperand (spell_more_elements (kinds.Mark points.Ampersand) es) t.second (head_parts es) (ends_operand b end))
    (within_less limit _ (depth below + max (levels e) (levels_of_elements es)) (omega arith) within)
    ∙ parts es takes.1 are.1 limit below t.between b t.second end (within_less limit _ (depth below + max (levels e) (levels_of_elements es)) (omega arith) within)

conjoined : (es : Elements) → TakeAll es → AreUnary es → TwoElements es → TakesConjunct (conjunction es)
conjoined no_elements takes are two limit below a b reads end within = absurd two
conjoined (element e es) takes are two limit below a b reads end within =
    let t = reads_split (spell e) (spell_more_elements (kinds.Mark points.Ampersand) es) reads in
    takes.0.operand are.0 limit (more_parts ∷ below) a t.between t.first (at_end_before ClosesOperand (spell_more_elements (kinds.Mark points.Ampersand) es) t.second (head_parts es) (ends_operand b end))
    (within_less limit _ (depth below + max (levels e) (levels_of_elements es)) (omega arith) within)
    ∙ parts es takes.1 are.1 limit below t.between b t.second end (within_less limit _ (depth below + max (levels e) (levels_of_elements es)) (omega arith) within)

-- a conjunction of parts that use up their goals uses up its own
pub takes_conjunction : (es : Elements) → TakeAll es → IsRight (conjunction es) → Takes (conjunction es)
takes_conjunction es takes right = record {
  operand = λ is. absurd is;
  conjunct = λ is. conjoined es takes right.1 right.2;
  whole = whole_by (conjunction es) right tt (conjoined es takes right.1 right.2);
}

-- disjunctions
-- its expression uses up its goal
abbrev pub TakesBranch : Branch → Type 0
TakesBranch (branch marked from e) = Takes e

-- the expression in each of the terms uses up its goal
abbrev pub TakeBranches : Branches → Type 0
TakeBranches no_branches = ⊤
TakeBranches (next_branch b bs) = TakesBranch b × TakeBranches bs

-- a term whose expression uses up its goal uses up that of a term
pub takes_term : (c : Branch) → TakesBranch c → IsRightBranch c → (limit : Limit) (below : Stack) (a b : List Token) → SpellsTree a (spell_branch c) b → EndsTerm b
    → Within limit (depth below + levels_of_branch c) → rest_where_stuck limit (term ∷ below) a ≡ rest_where_stuck limit below b
takes_term (branch true from e) takes right limit below a b reads end within =
    let s = reads_split (one (kinds.Mark points.Star)) (place_first from (spell e)) reads in
    took limit (term ∷ below) (unary ∷ below) s.first refl (within_less limit _ (depth below + levels e) (omega arith) within)
    ∙ takes.operand right.1 limit below s.between b (reads_unplaced from (spell e) s.second) (ends_operand b end) within
takes_term (branch false from e) takes right limit below a b reads end within =
    let plain = reads_unplaced from (spell e) reads in
    term_is_operand limit below a (begins BeginsOperand (spell e) plain (opens_conjunct e right.0 right.1))
    ∙ takes.conjunct right.1 limit below a b plain end within

head_terms : (bs : Branches) → HeadIs ClosesTerm (spell_more_branches bs)
head_terms no_branches = tt
head_terms (next_branch b bs) = tt

abbrev TakesTerms : Branches → Type 0
TakesTerms bs = (limit : Limit) (below : Stack) (a b : List Token) → SpellsTree a (spell_more_branches bs) b → EndsExpression b
    → Within limit (depth below + levels_of_branches bs) → rest_where_stuck limit (more_terms ∷ below) a ≡ rest_where_stuck limit below b

some_terms : (c : Branch) (bs : Branches) → TakesBranch c → IsRightBranch c → TakesTerms bs → (limit : Limit) (above below : Stack) → step_stack above (kinds.Mark points.Bar) ≡ Some (term ∷ more_terms ∷ below)
    → (a b : List Token) → SpellsTree a (spell_more_branches (next_branch c bs)) b → EndsExpression b → Within limit (depth below + levels_of_branches (next_branch c bs))
    → rest_where_stuck limit above a ≡ rest_where_stuck limit below b
some_terms c bs takes right rest limit above below takes_bar a b reads end within =
    let s = reads_split (one (kinds.Mark points.Bar)) (spell_branch c ++ spell_more_branches bs) reads in
    let t = reads_split (spell_branch c) (spell_more_branches bs) s.second in
    took limit above (term ∷ more_terms ∷ below) s.first takes_bar (within_less limit _ (depth below + max (levels_of_branch c) (levels_of_branches bs)) (omega arith) within)
    ∙ takes_term c takes right limit (more_terms ∷ below) s.between t.between t.first (at_end_before ClosesTerm (spell_more_branches bs) t.second (head_terms bs) (ends_term b end))
    (within_less limit _ (depth below + max (levels_of_branch c) (levels_of_branches bs)) (omega arith) within)
    ∙ rest limit below t.between b t.second end (within_less limit _ (depth below + max (levels_of_branch c) (levels_of_branches bs)) (omega arith) within)

terms : (bs : Branches) → TakeBranches bs → AreRightBranches bs → TakesTerms bs
terms no_branches takes right limit below a b reads end within = ap (rest_where_stuck limit (more_terms ∷ below)) reads.follows ∙ over_terms limit below b end
terms (next_branch c bs) takes right limit below a b reads end within =
    some_terms c bs takes.0 right.0 (terms bs takes.1 right.1) limit (more_terms ∷ below) below refl a b reads end within

disjoined : (bs : Branches) → TakeBranches bs → AreRightBranches bs → TwoBranches bs → TakesExpression (disjunction bs)
disjoined no_branches takes right two limit below a b reads end within = absurd two
disjoined (next_branch c no_branches) takes right two limit below a b reads end within = absurd two
disjoined (next_branch (branch true from e) (next_branch c bs)) takes right two limit below a b reads end within =
    let s = reads_split (one (kinds.Mark points.Star)) (place_first from (spell e) ++ spell_more_branches (next_branch c bs)) reads in
    let t = reads_split (place_first from (spell e)) (spell_more_branches (next_branch c bs)) s.second in
    took limit (expression ∷ below) (unary ∷ bar ∷ below) s.first refl (within_less limit _ (depth below + levels_of_branches (next_branch (branch true from e) (next_branch c bs))) (omega arith) within)
    ∙ takes.0.operand right.0.1 limit (bar ∷ below) s.between t.between (reads_unplaced from (spell e) t.first) (begins ClosesOperand (spell_more_branches (next_branch c bs)) t.second tt)
    (within_less limit _ (depth below + levels_of_branches (next_branch (branch true from e) (next_branch c bs))) (omega arith) within)
    ∙ some_terms c bs takes.1.0 right.1.0 (terms bs takes.1.1 right.1.1) limit (bar ∷ below) below refl t.between b t.second end
    (within_less limit _ (depth below + levels_of_branches (next_branch (branch true from e) (next_branch c bs))) (omega arith) within)
disjoined (next_branch (branch false from e) (next_branch c bs)) takes right two limit below a b reads end within =
    let t = reads_split (place_first from (spell e)) (spell_more_branches (next_branch c bs)) reads in
    let plain = reads_unplaced from (spell e) t.first in
    expression_is_operand limit below a (begins BeginsOperand (spell e) plain (opens_conjunct e right.0.0 right.0.1))
    ∙ takes.0.conjunct right.0.1 limit (more_terms ∷ below) a t.between plain (begins ClosesTerm (spell_more_branches (next_branch c bs)) t.second tt)
    (within_less limit _ (depth below + levels_of_branches (next_branch (branch false from e) (next_branch c bs))) (omega arith) within)
    ∙ terms (next_branch c bs) takes.1 right.1 limit below t.between b t.second end
    (within_less limit _ (depth below + levels_of_branches (next_branch (branch false from e) (next_branch c bs))) (omega arith) within)

-- a disjunction of terms that use up their goals uses up its own
pub takes_disjunction : (bs : Branches) → TakeBranches bs → IsRight (disjunction bs) → Takes (disjunction bs)
takes_disjunction bs takes right = record {
  operand = λ is. absurd is;
  conjunct = λ is. absurd is;
  whole = disjoined bs takes right.0 right.1;
}
