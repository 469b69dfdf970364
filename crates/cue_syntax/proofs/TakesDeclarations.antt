-- What values, declarations, structs and lists use up.
use Rattle.std.proofs.Common.{◌≡◌, ◌+◌, ◌∙◌, ap, refl, arith, ℕ, suc, max, length, Bool, true, false, List, [], ◌∷◌, ◌++◌, flat_map, codes, Some}
use Rattle.std.specs.Prelude.{⊤}
use Rattle.cue_lex.specs.declared.token.Token.{Token}
use Rattle.cue_lex.specs.declared.token.TokenKind.{TokenKind}
use Rattle.cue_lex.specs.declared.token.TokenKind.TheVariants as kinds
use Rattle.cue_lex.specs.declared.punctuation.Punctuation.TheVariants as points
use Rattle.cue_syntax.specs.declared.tree.Label.{Label}
use Rattle.cue_syntax.specs.declared.tree.LabelName.{LabelName}
use Rattle.cue_syntax.specs.declared.tree.LabelName.TheVariants as names
use Rattle.cue_syntax.specs.Syntax.{Expression, struct, close, list, Elements, no_elements, element, Entry, ellipsis, field, definition, Entries, no_entries, entry, Rest, no_rest, any_rest, each_rest}
use Rattle.cue_syntax.specs.Spelling.{SpellsTree, one, one_at, comma_if, label_kind, spell, spell_mark, spell_label, spell_elements, spell_more_elements, spell_dots, spell_rest, spell_entry, spell_entries, spell_more_entries}
use Rattle.cue_syntax.specs.Grammar.{Limit, Within, IsRight, IsNested, AreRight, IsRightRest, AreNested, IsRightEntry, AreRightEntries, EndsEntries, levels, levels_of_elements, levels_of_rest, levels_of_entry, levels_of_entries}
use Rattle.cue_syntax.specs.Viability.{BeginsExpression}
use Rattle.cue_syntax.specs.Recogniser.{Stack, step_stack, rest_where_stuck, depth, entries, more_entries, mark, colon, value, chained, expression, unary, behind_close, closed, elements, more_elements, dots, bracket}
use Rattle.cue_syntax.specs.Recogniser as goals
use Rattle.cue_syntax.proofs.ReadingsJoin.{reads_then}
use Rattle.cue_syntax.proofs.WhatMayFollow.{AtEnd, HeadIs, NoMark, ClosesExpression, EndsExpression}
use Rattle.cue_syntax.proofs.TakesOneToken.{reads_split, reads_unplaced, at_end_before, begins, within_less, took, over_chained}
use Rattle.cue_syntax.proofs.TreesBeginSo.{opens_expression, expression_opens}
use Rattle.cue_syntax.proofs.TakesSmallPieces.{element_is_expression, dots_are_expression, closes_dots, value_is_expression, TakesMark, takes_mark, plain_mark, takes_chained, closes_parenthesis, closes_bracket}
use Rattle.cue_syntax.proofs.TakesOperands.{Takes, TakesUnary, TakeAll, ends_comma}

-- values
no_mark : (k : TokenKind) → ClosesExpression k → NoMark k
no_mark (kinds.Mark points.Colon) closes = closes
no_mark (kinds.Mark points.Question) closes = closes
no_mark (kinds.Mark points.Exclamation) closes = closes
no_mark _ closes = tt

ends_clear : (a : List Token) → EndsExpression a → AtEnd NoMark a
ends_clear [] end = tt
ends_clear (t ∷ a) end = no_mark t.kind end

-- labels and then an expression use up the goal of a value
pub takes_value : (chain : List Label) (e : Expression) → Takes e → IsRight e → (limit : Limit) (below : Stack) (a b : List Token)
    → SpellsTree a (flat_map spell_label chain ++ spell e) b → EndsExpression b → Within limit (depth below + (length chain + levels e))
    → rest_where_stuck limit (value ∷ below) a ≡ rest_where_stuck limit below b
takes_value [] e takes right limit below a b reads end within =
    value_is_expression limit below a (expression_opens e reads right (ends_clear b end)) (within_less limit _ (depth below + (0 + levels e)) (omega arith) within)
    ∙ takes.whole limit below a b reads end (within_less limit _ (depth below + (0 + levels e)) (omega arith) within)
takes_value (l ∷ chain) e takes right limit below a b reads end within =
    let s = reads_split (spell_label l ++ flat_map spell_label chain) (spell e) reads in
    let t = reads_split (spell_label l) (flat_map spell_label chain) s.first in
    takes_chained limit below l t.first (within_less limit _ (depth below + (suc (length chain) + levels e)) (omega arith) within)
    ∙ takes_value chain e takes right limit (chained ∷ below) t.between b (reads_then t.second s.second) end
    (within_less limit _ (depth below + (suc (length chain) + levels e)) (omega arith) within)
    ∙ over_chained limit below b

-- a declaration
-- its expression uses up its goal
abbrev pub TakesEntry : Entry → Type 0
TakesEntry ellipsis = ⊤
TakesEntry (field label chain e) = Takes e
TakesEntry (definition t from chain e) = Takes e

-- the expression in each of the declarations uses up its goal
abbrev pub TakeEntries : Entries → Type 0
TakeEntries no_entries = ⊤
TakeEntries (entry e es) = TakesEntry e × TakeEntries es

-- a definition stands at the top alone
abbrev pub FitsTop : Bool → Entry → Type 0
FitsTop true e = ⊤
FitsTop false e = IsNested e

-- definitions stand at the top alone
abbrev pub FitTop : Bool → Entries → Type 0
FitTop true es = ⊤
FitTop false es = AreNested es

-- the goal of declarations takes the name of a label, and leaves its mark, its value and more declarations
pub label_step : (top : Bool) (below : Stack) (n : LabelName) → step_stack (entries top ∷ below) (label_kind n) ≡ Some (mark ∷ value ∷ more_entries top ∷ below)
label_step true below (names.Plain t) = refl
label_step true below (names.Quoted t) = refl
label_step false below (names.Plain t) = refl
label_step false below (names.Quoted t) = refl

ellipsis_step : (top : Bool) (below : Stack) → step_stack (entries top ∷ below) (kinds.Mark points.Ellipsis) ≡ Some (more_entries top ∷ below)
ellipsis_step true below = refl
ellipsis_step false below = refl

-- for goals that take the name of a label, and then its mark
pub takes_field : (l : Label) (chain : List Label) (e : Expression) → Takes e → IsRight e → (limit : Limit) (above middle below : Stack) → step_stack above (label_kind l.name) ≡ Some middle
    → depth middle ≡ depth below → TakesMark middle (value ∷ below) → (a b : List Token) → SpellsTree a (spell_entry (field l chain e)) b → EndsExpression b
    → Within limit (depth below + (length chain + levels e)) → rest_where_stuck limit above a ≡ rest_where_stuck limit below b
takes_field l chain e takes right limit above middle below takes_label deep steps a b reads end within =
    let s = reads_split (spell_label l ++ flat_map spell_label chain) (spell e) reads in
    let t = reads_split (spell_label l) (flat_map spell_label chain) s.first in
    let u = reads_split (one (label_kind l.name)) (spell_mark l.mark ++ one (kinds.Mark points.Colon)) t.first in
    took limit above middle u.first takes_label (within_less limit _ (depth below + (length chain + levels e)) (omega (arith, deep)) within)
    ∙ takes_mark limit middle (value ∷ below) steps l.mark u.second (within_less limit _ (depth below + (length chain + levels e)) (omega arith) within)
    ∙ takes_value chain e takes right limit below t.between b (reads_then t.second s.second) end within

takes_definition : (s : List ℕ) (from : ℕ) (chain : List Label) (e : Expression) → Takes e → IsRight e → (limit : Limit) (below : Stack) (a b : List Token)
    → SpellsTree a (spell_entry (definition s from chain e)) b → EndsExpression b → Within limit (depth (more_entries true ∷ below) + (length chain + levels e))
    → rest_where_stuck limit (entries true ∷ below) a ≡ rest_where_stuck limit (more_entries true ∷ below) b
takes_definition n from chain e takes right limit below a b reads end within =
    let s = reads_split (one_at from (kinds.Definition n)) (one (kinds.Mark points.Colon) ++ (flat_map spell_label chain ++ spell e)) reads in
    let t = reads_split (one (kinds.Mark points.Colon)) (flat_map spell_label chain ++ spell e) s.second in
    took limit (entries true ∷ below) (colon ∷ value ∷ more_entries true ∷ below) (reads_unplaced from (one (kinds.Definition n)) s.first) refl
    (within_less limit _ (depth (more_entries true ∷ below) + (length chain + levels e)) (omega arith) within)
    ∙ took limit (colon ∷ value ∷ more_entries true ∷ below) (value ∷ more_entries true ∷ below) t.first refl
    (within_less limit _ (depth (more_entries true ∷ below) + (length chain + levels e)) (omega arith) within)
    ∙ takes_value chain e takes right limit (more_entries true ∷ below) t.between b t.second end within

-- a declaration leaves the goal of more declarations
pub takes_entry : (top : Bool) (e : Entry) → TakesEntry e → IsRightEntry e → FitsTop top e → (limit : Limit) (below : Stack) (a b : List Token) → SpellsTree a (spell_entry e) b → EndsExpression b
    → Within limit (depth (more_entries top ∷ below) + levels_of_entry e) → rest_where_stuck limit (entries top ∷ below) a ≡ rest_where_stuck limit (more_entries top ∷ below) b
takes_entry top ellipsis takes right fits limit below a b reads end within =
    took limit (entries top ∷ below) (more_entries top ∷ below) reads (ellipsis_step top below) (within_less limit _ (depth (more_entries top ∷ below) + 0) (omega arith) within)
takes_entry top (field l chain e) takes right fits limit below a b reads end within =
    takes_field l chain e takes right limit (entries top ∷ below) (mark ∷ value ∷ more_entries top ∷ below) (more_entries top ∷ below) (label_step top below l.name) (omega arith)
    (plain_mark (value ∷ more_entries top ∷ below)) a b reads end within
takes_entry true (definition n from chain e) takes right fits limit below a b reads end within =
    takes_definition n from chain e takes right limit below a b reads end within
takes_entry false (definition n from chain e) takes right fits limit below a b reads end within = absurd fits

-- declarations
-- further declarations, where there are any, begin with a token that may follow an expression
pub head_entries : (es : Entries) → HeadIs ClosesExpression (spell_more_entries es)
head_entries no_entries = tt
head_entries (entry e es) = tt

fits_first : (top : Bool) (e : Entry) (es : Entries) → FitTop top (entry e es) → FitsTop top e
fits_first true e es fit = tt
fits_first false e es fit = fit.0

fit_rest : (top : Bool) (e : Entry) (es : Entries) → FitTop top (entry e es) → FitTop top es
fit_rest true e es fit = tt
fit_rest false e es fit = fit.1

comma_step : (top : Bool) (below : Stack) → step_stack (more_entries top ∷ below) (kinds.Mark points.Comma) ≡ Some (entries top ∷ below)
comma_step true below = refl
comma_step false below = refl

-- a declaration is as deep as what may follow it
same_depth : (top : Bool) (below : Stack) → depth (entries top ∷ below) ≡ depth (more_entries top ∷ below)
same_depth true below = refl
same_depth false below = refl

-- further declarations leave the goal of more declarations
pub takes_more_entries : (top : Bool) (es : Entries) → TakeEntries es → AreRightEntries es → FitTop top es → (limit : Limit) (below : Stack) (a b : List Token)
    → SpellsTree a (spell_more_entries es) b → EndsExpression b → Within limit (depth (more_entries top ∷ below) + levels_of_entries es)
    → rest_where_stuck limit (more_entries top ∷ below) a ≡ rest_where_stuck limit (more_entries top ∷ below) b
takes_more_entries top no_entries takes right fit limit below a b reads end within = ap (rest_where_stuck limit (more_entries top ∷ below)) reads.follows
takes_more_entries top (entry e es) takes right fit limit below a b reads end within =
    let s = reads_split (one (kinds.Mark points.Comma)) (spell_entry e ++ spell_more_entries es) reads in
    let t = reads_split (spell_entry e) (spell_more_entries es) s.second in
    took limit (more_entries top ∷ below) (entries top ∷ below) s.first (comma_step top below)
    (within_less limit _ (depth (more_entries top ∷ below) + max (levels_of_entry e) (levels_of_entries es)) (omega (arith, same_depth top below)) within)
    ∙ takes_entry top e takes.0 right.0 (fits_first top e es fit) limit below s.between t.between t.first (at_end_before ClosesExpression (spell_more_entries es) t.second (head_entries es) end)
    (within_less limit _ (depth (more_entries top ∷ below) + max (levels_of_entry e) (levels_of_entries es)) (omega arith) within)
    ∙ takes_more_entries top es takes.1 right.1 (fit_rest top e es fit) limit below t.between b t.second end
    (within_less limit _ (depth (more_entries top ∷ below) + max (levels_of_entry e) (levels_of_entries es)) (omega arith) within)

-- declarations, at least one, leave the goal of more declarations
pub takes_entries : (top : Bool) (e : Entry) (es : Entries) → TakeEntries (entry e es) → AreRightEntries (entry e es) → FitTop top (entry e es) → (limit : Limit) (below : Stack) (a b : List Token)
    → SpellsTree a (spell_entries (entry e es)) b → EndsExpression b → Within limit (depth (more_entries top ∷ below) + levels_of_entries (entry e es))
    → rest_where_stuck limit (entries top ∷ below) a ≡ rest_where_stuck limit (more_entries top ∷ below) b
takes_entries top e es takes right fit limit below a b reads end within =
    let t = reads_split (spell_entry e) (spell_more_entries es) reads in
    takes_entry top e takes.0 right.0 (fits_first top e es fit) limit below a t.between t.first (at_end_before ClosesExpression (spell_more_entries es) t.second (head_entries es) end)
    (within_less limit _ (depth (more_entries top ∷ below) + max (levels_of_entry e) (levels_of_entries es)) (omega arith) within)
    ∙ takes_more_entries top es takes.1 right.1 (fit_rest top e es fit) limit below t.between b t.second end
    (within_less limit _ (depth (more_entries top ∷ below) + max (levels_of_entry e) (levels_of_entries es)) (omega arith) within)

-- braces
closes_brace : (limit : Limit) (below : Stack) {a b c : List Token} (comma : Bool) → SpellsTree a (comma_if comma) b → SpellsTree b (one (kinds.Mark points.CloseBrace)) c → Within limit (1 + depth below)
    → rest_where_stuck limit (more_entries false ∷ below) a ≡ rest_where_stuck limit below c
closes_brace limit below true first second within =
    took limit (more_entries false ∷ below) (entries false ∷ below) first refl within
    ∙ took limit (entries false ∷ below) below second refl (within_less limit _ (1 + depth below) (omega arith) within)
closes_brace limit below false first second within =
    ap (rest_where_stuck limit (more_entries false ∷ below)) first.follows
    ∙ took limit (more_entries false ∷ below) below second refl (within_less limit _ (1 + depth below) (omega arith) within)

-- declarations and their closing brace use up the goal of declarations
pub takes_braces : (es : Entries) (comma : Bool) → TakeEntries es → AreRightEntries es → AreNested es → EndsEntries comma es → (limit : Limit) (below : Stack) (a b : List Token)
    → SpellsTree a (spell_entries es ++ comma_if comma ++ one (kinds.Mark points.CloseBrace)) b → Within limit (depth below + (1 + levels_of_entries es))
    → rest_where_stuck limit (entries false ∷ below) a ≡ rest_where_stuck limit below b
takes_braces no_entries true takes right nested ends limit below a b reads within = absurd ends
takes_braces no_entries false takes right nested ends limit below a b reads within =
    took limit (entries false ∷ below) below reads refl (within_less limit _ (depth below + (1 + 0)) (omega arith) within)
takes_braces (entry e es) comma takes right nested ends limit below a b reads within =
    let s = reads_split (spell_entries (entry e es) ++ comma_if comma) (one (kinds.Mark points.CloseBrace)) reads in
    let t = reads_split (spell_entries (entry e es)) (comma_if comma) s.first in
    takes_entries false e es takes right nested limit below a t.between t.first (ends_comma comma (kinds.Mark points.CloseBrace) t.second s.second tt)
    (within_less limit _ (depth below + (1 + levels_of_entries (entry e es))) (omega arith) within)
    ∙ closes_brace limit below comma t.second s.second (within_less limit _ (depth below + (1 + levels_of_entries (entry e es))) (omega arith) within)

-- a struct uses up the goal of an operand
pub takes_struct : (es : Entries) (comma : Bool) → TakeEntries es → IsRight (struct es comma) → TakesUnary (struct es comma)
takes_struct es comma takes right limit below a b reads end within =
    let s = reads_split (one (kinds.Mark points.OpenBrace)) (spell_entries es ++ comma_if comma ++ one (kinds.Mark points.CloseBrace)) reads in
    took limit (unary ∷ below) (entries false ∷ below) s.first refl (within_less limit _ (depth below + (1 + levels_of_entries es)) (omega arith) within)
    ∙ takes_braces es comma takes right.0 right.1 right.2 limit below s.between b s.second within

-- a `close({..})` uses up the goal of an operand
pub takes_close : (from : ℕ) (es : Entries) (inner comma : Bool) → TakeEntries es → IsRight (close from es inner comma) → TakesUnary (close from es inner comma)
takes_close from es inner comma takes right limit below a b reads end within =
    let braces = spell_entries es ++ comma_if inner ++ one (kinds.Mark points.CloseBrace) in
    let s = reads_split (one_at from (kinds.Name (codes "close"))) (one (kinds.Mark points.OpenParenthesis) ++ ((one (kinds.Mark points.OpenBrace) ++ braces) ++ comma_if comma ++ one (kinds.Mark points.CloseParenthesis))) reads in
    let t = reads_split (one (kinds.Mark points.OpenParenthesis)) ((one (kinds.Mark points.OpenBrace) ++ braces) ++ comma_if comma ++ one (kinds.Mark points.CloseParenthesis)) s.second in
    let u = reads_split ((one (kinds.Mark points.OpenBrace) ++ braces) ++ comma_if comma) (one (kinds.Mark points.CloseParenthesis)) t.second in
    let v = reads_split (one (kinds.Mark points.OpenBrace) ++ braces) (comma_if comma) u.first in
    let w = reads_split (one (kinds.Mark points.OpenBrace)) braces v.first in
    took limit (unary ∷ below) (behind_close ∷ below) (reads_unplaced from (one (kinds.Name (codes "close"))) s.first) refl (within_less limit _ (depth below + (2 + levels_of_entries es)) (omega arith) within)
    ∙ took limit (behind_close ∷ below) (closed ∷ below) t.first refl (within_less limit _ (depth below + (2 + levels_of_entries es)) (omega arith) within)
    ∙ took limit (closed ∷ below) (entries false ∷ goals.parenthesis ∷ below) w.first refl (within_less limit _ (depth below + (2 + levels_of_entries es)) (omega arith) within)
    ∙ takes_braces es inner takes right.0 right.1 right.2 limit (goals.parenthesis ∷ below) w.between v.between w.second (within_less limit _ (depth below + (2 + levels_of_entries es)) (omega arith) within)
    ∙ closes_parenthesis limit below comma v.second u.second (within_less limit _ (depth below + (2 + levels_of_entries es)) (omega arith) within)

-- lists
head_elements : (es : Elements) → HeadIs ClosesExpression (spell_more_elements (kinds.Mark points.Comma) es)
head_elements no_elements = tt
head_elements (element e es) = tt

takes_element : (e : Expression) → Takes e → IsRight e → (limit : Limit) (below : Stack) (a b : List Token) → SpellsTree a (spell e) b → EndsExpression b
    → Within limit (1 + depth below + levels e) → rest_where_stuck limit (elements ∷ below) a ≡ rest_where_stuck limit (more_elements ∷ below) b
takes_element e takes right limit below a b reads end within =
    element_is_expression limit below a (begins BeginsExpression (spell e) reads (opens_expression e right))
    ∙ takes.whole limit (more_elements ∷ below) a b reads end within

takes_more_elements : (es : Elements) → TakeAll es → AreRight es → (limit : Limit) (below : Stack) (a b : List Token) → SpellsTree a (spell_more_elements (kinds.Mark points.Comma) es) b → EndsExpression b
    → Within limit (1 + depth below + levels_of_elements es) → rest_where_stuck limit (more_elements ∷ below) a ≡ rest_where_stuck limit (more_elements ∷ below) b
takes_more_elements no_elements takes right limit below a b reads end within = ap (rest_where_stuck limit (more_elements ∷ below)) reads.follows
takes_more_elements (element e es) takes right limit below a b reads end within =
    let s = reads_split (one (kinds.Mark points.Comma)) (spell e ++ spell_more_elements (kinds.Mark points.Comma) es) reads in
    let t = reads_split (spell e) (spell_more_elements (kinds.Mark points.Comma) es) s.second in
    took limit (more_elements ∷ below) (elements ∷ below) s.first refl (within_less limit _ (1 + depth below + max (levels e) (levels_of_elements es)) (omega arith) within)
    ∙ takes_element e takes.0 right.0 limit below s.between t.between t.first (at_end_before ClosesExpression (spell_more_elements (kinds.Mark points.Comma) es) t.second (head_elements es) end)
    (within_less limit _ (1 + depth below + max (levels e) (levels_of_elements es)) (omega arith) within)
    ∙ takes_more_elements es takes.1 right.1 limit below t.between b t.second end (within_less limit _ (1 + depth below + max (levels e) (levels_of_elements es)) (omega arith) within)

-- the expression of the rest, if there is one, uses up its goal
abbrev pub TakesRest : Rest → Type 0
TakesRest (each_rest e) = Takes e
TakesRest _ = ⊤

-- after `...`: an expression, a comma, and the bracket
ends_each : (limit : Limit) (below : Stack) (a b c d : List Token) (e : Expression) (comma : Bool) → Takes e → IsRight e → SpellsTree a (spell e) b → SpellsTree b (comma_if comma) c
    → SpellsTree c (one (kinds.Mark points.CloseBracket)) d → Within limit (1 + depth below + levels e) → rest_where_stuck limit (dots ∷ below) a ≡ rest_where_stuck limit below d
ends_each limit below a b c d e comma takes right first second third within =
    dots_are_expression limit below a (begins BeginsExpression (spell e) first (opens_expression e right))
    ∙ takes.whole limit (bracket ∷ below) a b first (ends_comma comma (kinds.Mark points.CloseBracket) second third tt) within
    ∙ closes_bracket limit below comma second third (within_less limit _ (1 + depth below + levels e) (omega arith) within)

-- after the elements: `...`, with a comma before it
more_dots : (limit : Limit) (below : Stack) (a b : List Token) (e : Expression) (es : Elements) → SpellsTree a (spell_dots (element e es)) b → Within limit (1 + depth below)
    → rest_where_stuck limit (more_elements ∷ below) a ≡ rest_where_stuck limit (dots ∷ below) b
more_dots limit below a b e es first within =
    let s = reads_split (one (kinds.Mark points.Comma)) (one (kinds.Mark points.Ellipsis)) first in
    took limit (more_elements ∷ below) (elements ∷ below) s.first refl within
    ∙ took limit (elements ∷ below) (dots ∷ below) s.second refl within

-- after the elements: their rest, a comma, and the bracket
ends_elements : (limit : Limit) (below : Stack) (a b c d : List Token) (e : Expression) (es : Elements) (tail : Rest) (comma : Bool) → TakesRest tail → IsRightRest tail
    → SpellsTree a (spell_rest (element e es) tail) b → SpellsTree b (comma_if comma) c → SpellsTree c (one (kinds.Mark points.CloseBracket)) d → Within limit (1 + depth below + levels_of_rest tail)
    → rest_where_stuck limit (more_elements ∷ below) a ≡ rest_where_stuck limit below d
ends_elements limit below a b c d e es any_rest comma takes right first second third within =
    let less : Within limit (1 + depth below) = within_less limit _ (1 + depth below + 0) (omega arith) within in
    more_dots limit below a b e es first less ∙ closes_dots limit below comma second third less
ends_elements limit below a b c d e es (each_rest f) comma takes right first second third within =
    let s = reads_split (spell_dots (element e es)) (spell f) first in
    more_dots limit below a s.between e es s.first (within_less limit _ (1 + depth below + levels f) (omega arith) within)
    ∙ ends_each limit below s.between b c d f comma takes right s.second second third within
ends_elements limit below a b c d e es no_rest true takes right first second third within =
    ap (rest_where_stuck limit (more_elements ∷ below)) first.follows
    ∙ took limit (more_elements ∷ below) (elements ∷ below) second refl (within_less limit _ (1 + depth below + 0) (omega arith) within)
    ∙ took limit (elements ∷ below) below third refl (within_less limit _ (1 + depth below + 0) (omega arith) within)
ends_elements limit below a b c d e es no_rest false takes right first second third within =
    ap (rest_where_stuck limit (more_elements ∷ below)) first.follows
    ∙ ap (rest_where_stuck limit (more_elements ∷ below)) second.follows
    ∙ took limit (more_elements ∷ below) below third refl (within_less limit _ (1 + depth below + 0) (omega arith) within)

head_rest : (e : Expression) (es : Elements) (tail : Rest) → HeadIs ClosesExpression (spell_rest (element e es) tail)
head_rest e es any_rest = tt
head_rest e es (each_rest f) = tt
head_rest e es no_rest = tt

takes_items : (es : Elements) (tail : Rest) (comma : Bool) → TakeAll es → TakesRest tail → IsRight (list es tail comma) → (limit : Limit) (below : Stack) (a b c d f : List Token)
    → SpellsTree a (spell_elements (kinds.Mark points.Comma) es) b → SpellsTree b (spell_rest es tail) c → SpellsTree c (comma_if comma) d → SpellsTree d (one (kinds.Mark points.CloseBracket)) f
    → Within limit (depth below + (1 + max (levels_of_elements es) (levels_of_rest tail))) → rest_where_stuck limit (elements ∷ below) a ≡ rest_where_stuck limit below f
takes_items no_elements any_rest comma takes rest right limit below a b c d f first second third fourth within =
    ap (rest_where_stuck limit (elements ∷ below)) first.follows
    ∙ took limit (elements ∷ below) (dots ∷ below) second refl (within_less limit _ (depth below + (1 + max 0 0)) (omega arith) within)
    ∙ closes_dots limit below comma third fourth (within_less limit _ (depth below + (1 + max 0 0)) (omega arith) within)
takes_items no_elements (each_rest e) comma takes rest right limit below a b c d f first second third fourth within =
    let s = reads_split (one (kinds.Mark points.Ellipsis)) (spell e) second in
    ap (rest_where_stuck limit (elements ∷ below)) first.follows
    ∙ took limit (elements ∷ below) (dots ∷ below) s.first refl (within_less limit _ (depth below + (1 + max 0 (levels e))) (omega arith) within)
    ∙ ends_each limit below s.between c d f e comma rest right.1 s.second third fourth (within_less limit _ (depth below + (1 + max 0 (levels e))) (omega arith) within)
takes_items no_elements no_rest true takes rest right limit below a b c d f first second third fourth within = absurd right.2
takes_items no_elements no_rest false takes rest right limit below a b c d f first second third fourth within =
    ap (rest_where_stuck limit (elements ∷ below)) first.follows
    ∙ ap (rest_where_stuck limit (elements ∷ below)) second.follows
    ∙ ap (rest_where_stuck limit (elements ∷ below)) third.follows
    ∙ took limit (elements ∷ below) below fourth refl (within_less limit _ (depth below + (1 + max 0 0)) (omega arith) within)
takes_items (element e es) tail comma takes rest right limit below a b c d f first second third fourth within =
    let all : ℕ = depth below + (1 + max (max (levels e) (levels_of_elements es)) (levels_of_rest tail)) in
    let t = reads_split (spell e) (spell_more_elements (kinds.Mark points.Comma) es) first in
    let end : EndsExpression b = at_end_before ClosesExpression (spell_rest (element e es) tail) second (head_rest e es tail) (ends_comma comma (kinds.Mark points.CloseBracket) third fourth tt) in
    takes_element e takes.0 right.0.0 limit below a t.between t.first (at_end_before ClosesExpression (spell_more_elements (kinds.Mark points.Comma) es) t.second (head_elements es) end)
    (within_less limit _ all (omega arith) within)
    ∙ takes_more_elements es takes.1 right.0.1 limit below t.between b t.second end (within_less limit _ all (omega arith) within)
    ∙ ends_elements limit below b c d f e es tail comma rest right.1 second third fourth (within_less limit _ all (omega arith) within)

-- elements and their rest, up to the bracket, use up the goal of elements
pub takes_in_brackets : (es : Elements) (tail : Rest) (comma : Bool) → TakeAll es → TakesRest tail → IsRight (list es tail comma) → (limit : Limit) (below : Stack) (a b : List Token)
    → SpellsTree a (spell_elements (kinds.Mark points.Comma) es ++ spell_rest es tail ++ comma_if comma ++ one (kinds.Mark points.CloseBracket)) b
    → Within limit (depth below + (1 + max (levels_of_elements es) (levels_of_rest tail))) → rest_where_stuck limit (elements ∷ below) a ≡ rest_where_stuck limit below b
takes_in_brackets es tail comma takes rest right limit below a b reads within =
    let t = reads_split (spell_elements (kinds.Mark points.Comma) es ++ spell_rest es tail ++ comma_if comma) (one (kinds.Mark points.CloseBracket)) reads in
    let u = reads_split (spell_elements (kinds.Mark points.Comma) es ++ spell_rest es tail) (comma_if comma) t.first in
    let v = reads_split (spell_elements (kinds.Mark points.Comma) es) (spell_rest es tail) u.first in
    takes_items es tail comma takes rest right limit below a v.between u.between t.between b v.first v.second u.second t.second within

-- a list uses up the goal of an operand
pub takes_list : (es : Elements) (tail : Rest) (comma : Bool) → TakeAll es → TakesRest tail → IsRight (list es tail comma) → TakesUnary (list es tail comma)
takes_list es tail comma takes rest right limit below a b reads end within =
    let s = reads_split (one (kinds.Mark points.OpenBracket)) (spell_elements (kinds.Mark points.Comma) es ++ spell_rest es tail ++ comma_if comma ++ one (kinds.Mark points.CloseBracket)) reads in
    took limit (unary ∷ below) (elements ∷ below) s.first refl (within_less limit _ (depth below + (1 + max (levels_of_elements es) (levels_of_rest tail))) (omega arith) within)
    ∙ takes_in_brackets es tail comma takes rest right limit below s.between b s.second within
