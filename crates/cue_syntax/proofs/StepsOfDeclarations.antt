-- The same for the goals of declarations, lists and texts, and so for every stack.
use Rattle.std.proofs.Common.{◌≡◌, refl, sym, ap, subst, ◌∙◌, ℕ, ◌+◌, Bool, true, false, List, [], ◌∷◌, codes, Option, arith}
use Rattle.std.specs.Prelude.{None, Some, if◌then◌else◌}
use Rattle.cue_lex.specs.declared.token.Token.{Token}
use Rattle.cue_lex.specs.declared.token.TokenKind.{TokenKind}
use Rattle.cue_lex.specs.declared.token.TokenKind.TheVariants as kinds
use Rattle.cue_lex.specs.declared.punctuation.Punctuation.TheVariants as points
use Rattle.cue_syntax.specs.declared.tree.Identifier.TheVariants as identifiers
use Rattle.cue_syntax.specs.declared.tree.LabelName.TheVariants as names
use Rattle.cue_syntax.specs.Grammar.{HidesDefinition, Limit}
use Rattle.cue_syntax.specs.Recogniser.{Goal, Stack, is_word, hides_definition, take_mark, take_expression, take_entry, take_package, take_text, take_element, take_dots, take_token, step_stack}
use Rattle.cue_syntax.proofs.ReadingsJoin.{reads_none}
use Rattle.cue_syntax.proofs.StillToRead.{inside, under, beneath, Keeps}
use Rattle.cue_syntax.proofs.EachStackEnds.{keeps_from, reads_kind, less_below}
use Rattle.cue_syntax.proofs.ExpressionsByParts.{name_unary, close_unary}
use Rattle.cue_syntax.proofs.DeclarationsByParts.{field_entry, definition_entry, ellipsis_entry, entry_entries, comma_entries, brace_entries, brace_more, brace_closed, element_elements, shut_dots, expression_dots, ellipsis_elements, bracket_elements, bracket_more, comma_elements, entries_whole, comma_package, package_whole}
use Rattle.cue_syntax.proofs.StepsKeepWhatIsAhead.{Before, through, word_is, unary_before, signed_before, signed_or_text_before, magnitude_before, term_before, expression_before, more_parts_before, bar_before, more_terms_before, mark_before, colon_before, value_before, value_name_before, value_text_before}

-- the ends of parentheses and lists
behind_close_before : (limit : Limit) (t : Token) (goals : Stack) (behind : Option Stack) (kind : TokenKind) → t.kind ≡ kind → Keeps limit (beneath goals) → Before limit t goals behind
    → Before limit t (Goal.behind_close ∷ goals) (take_token Goal.behind_close goals behind kind)
behind_close_before limit t goals behind (kinds.Mark points.OpenParenthesis) is keeps before = λ a ahead. (ahead.0, λ first kind. close_unary first t kind is ahead.1, ahead.2)
behind_close_before limit t goals behind _ is keeps before =
    through limit t goals (Goal.behind_close ∷ goals) behind (λ a ahead. (a, λ first kind. name_unary first (codes "close") kind refl keeps, ahead)) before

closed_before : (limit : Limit) (t : Token) (goals : Stack) (behind : Option Stack) (kind : TokenKind) → t.kind ≡ kind → Before limit t (Goal.closed ∷ goals) (take_token Goal.closed goals behind kind)
closed_before limit t goals behind (kinds.Mark points.OpenBrace) is = λ a ahead. (ahead.2.0, brace_closed (beneath goals) t is ahead.1 ahead.2.1, ahead.2.2)
closed_before limit t goals behind _ is = tt

parenthesis_before : (limit : Limit) (t : Token) (goals : Stack) (behind : Option Stack) (kind : TokenKind) → t.kind ≡ kind → Before limit t (Goal.parenthesis ∷ goals) (take_token Goal.parenthesis goals behind kind)
parenthesis_before limit t goals behind (kinds.Mark points.Comma) is = λ a ahead. (ahead.0, record { part = true; reads = reads_kind t is ahead.1 }, ahead.2)
parenthesis_before limit t goals behind (kinds.Mark points.CloseParenthesis) is = λ a ahead. (a, record { part = false; reads = reads_kind t is reads_none }, ahead)
parenthesis_before limit t goals behind _ is = tt

parenthesis_end_before : (limit : Limit) (t : Token) (goals : Stack) (behind : Option Stack) (kind : TokenKind) → t.kind ≡ kind
    → Before limit t (Goal.parenthesis_end ∷ goals) (take_token Goal.parenthesis_end goals behind kind)
parenthesis_end_before limit t goals behind (kinds.Mark points.CloseParenthesis) is = λ a ahead. (a, reads_kind t is reads_none, ahead)
parenthesis_end_before limit t goals behind _ is = tt

bracket_before : (limit : Limit) (t : Token) (goals : Stack) (behind : Option Stack) (kind : TokenKind) → t.kind ≡ kind → Before limit t (Goal.bracket ∷ goals) (take_token Goal.bracket goals behind kind)
bracket_before limit t goals behind (kinds.Mark points.Comma) is = λ a ahead. (ahead.0, record { part = true; reads = reads_kind t is ahead.1 }, ahead.2)
bracket_before limit t goals behind (kinds.Mark points.CloseBracket) is = λ a ahead. (a, record { part = false; reads = reads_kind t is reads_none }, ahead)
bracket_before limit t goals behind _ is = tt

bracket_end_before : (limit : Limit) (t : Token) (goals : Stack) (behind : Option Stack) (kind : TokenKind) → t.kind ≡ kind → Before limit t (Goal.bracket_end ∷ goals) (take_token Goal.bracket_end goals behind kind)
bracket_end_before limit t goals behind (kinds.Mark points.CloseBracket) is = λ a ahead. (a, reads_kind t is reads_none, ahead)
bracket_end_before limit t goals behind _ is = tt

dots_before : (limit : Limit) (t : Token) (goals : Stack) (kind : TokenKind) → t.kind ≡ kind → Keeps limit (1 + beneath goals) → Before limit t (Goal.dots ∷ goals) (take_dots goals kind)
dots_before limit t goals (kinds.Mark points.Comma) is keeps = λ a ahead. (ahead.0, shut_dots (record { part = true; reads = reads_kind t is ahead.1 }) keeps, ahead.2)
dots_before limit t goals (kinds.Mark points.CloseBracket) is keeps = λ a ahead. (a, shut_dots (record { part = false; reads = reads_kind t is reads_none }) keeps, ahead)
dots_before limit t goals kind is keeps =
    through limit t (Goal.expression ∷ Goal.bracket ∷ goals) (Goal.dots ∷ goals) (take_expression (Goal.bracket ∷ goals) kind)
    (λ a ahead. (ahead.2.0, expression_dots ahead.1 ahead.2.1, ahead.2.2))
    (expression_before limit t (Goal.bracket ∷ goals) kind is keeps)

elements_before : (limit : Limit) (t : Token) (goals : Stack) (kind : TokenKind) → t.kind ≡ kind → Keeps limit (1 + beneath goals) → Before limit t (Goal.elements ∷ goals) (take_element goals kind)
elements_before limit t goals (kinds.Mark points.CloseBracket) is keeps = λ a ahead. (a, bracket_elements t is keeps, ahead)
elements_before limit t goals (kinds.Mark points.Ellipsis) is keeps = λ a ahead. (ahead.0, ellipsis_elements t is ahead.1, ahead.2)
elements_before limit t goals kind is keeps =
    through limit t (Goal.expression ∷ Goal.more_elements ∷ goals) (Goal.elements ∷ goals) (take_expression (Goal.more_elements ∷ goals) kind)
    (λ a ahead. (ahead.2.0, element_elements ahead.1 ahead.2.1, ahead.2.2))
    (expression_before limit t (Goal.more_elements ∷ goals) kind is keeps)

more_elements_before : (limit : Limit) (t : Token) (goals : Stack) (behind : Option Stack) (kind : TokenKind) → t.kind ≡ kind → Keeps limit (1 + beneath goals)
    → Before limit t (Goal.more_elements ∷ goals) (take_token Goal.more_elements goals behind kind)
more_elements_before limit t goals behind (kinds.Mark points.Comma) is keeps = λ a ahead. (ahead.0, comma_elements t is ahead.1, ahead.2)
more_elements_before limit t goals behind (kinds.Mark points.CloseBracket) is keeps = λ a ahead. (a, bracket_more t is keeps, ahead)
more_elements_before limit t goals behind _ is keeps = tt

-- declarations
entry_before : (limit : Limit) (t : Token) (top : Bool) (goals : Stack) (kind : TokenKind) → t.kind ≡ kind → Keeps limit (inside top (beneath goals))
    → Before limit t (Goal.entries top ∷ goals) (take_entry top (Goal.more_entries top ∷ goals) kind)
entry_before limit t top goals (kinds.Mark points.Ellipsis) is keeps = λ a ahead. (ahead.0, entry_entries (ellipsis_entry top t is keeps) ahead.1, ahead.2)
entry_before limit t top goals (kinds.Name w) is keeps = λ a ahead. (ahead.2.2.0, entry_entries (field_entry top t (names.Plain w) is ahead.1 ahead.2.1) ahead.2.2.1, ahead.2.2.2)
entry_before limit t top goals (kinds.Text w) is keeps = λ a ahead. (ahead.2.2.0, entry_entries (field_entry top t (names.Quoted w) is ahead.1 ahead.2.1) ahead.2.2.1, ahead.2.2.2)
entry_before limit t true goals (kinds.Definition w) is keeps = λ a ahead. (ahead.2.2.0, entry_entries (definition_entry t w is ahead.1 ahead.2.1) ahead.2.2.1, ahead.2.2.2)
entry_before limit t false goals (kinds.Definition w) is keeps = tt
entry_before limit t true goals _ is keeps = tt
entry_before limit t false goals _ is keeps = tt

entries_before : (limit : Limit) (t : Token) (top : Bool) (goals : Stack) (behind : Option Stack) (kind : TokenKind) → t.kind ≡ kind → Keeps limit (inside top (beneath goals))
    → Before limit t (Goal.entries top ∷ goals) (take_token (Goal.entries top) goals behind kind)
entries_before limit t false goals behind (kinds.Mark points.CloseBrace) is keeps = λ a ahead. (a, brace_entries t is keeps, ahead)
entries_before limit t false goals behind kind is keeps = entry_before limit t false goals kind is keeps
entries_before limit t true goals behind kind is keeps = entry_before limit t true goals kind is keeps

more_entries_before : (limit : Limit) (t : Token) (top : Bool) (goals : Stack) (behind : Option Stack) (kind : TokenKind) → t.kind ≡ kind → Keeps limit (inside top (beneath goals))
    → Before limit t (Goal.more_entries top ∷ goals) (take_token (Goal.more_entries top) goals behind kind)
more_entries_before limit t true goals behind (kinds.Mark points.Comma) is keeps = λ a ahead. (ahead.0, comma_entries t is ahead.1, ahead.2)
more_entries_before limit t true goals behind _ is keeps = tt
more_entries_before limit t false goals behind (kinds.Mark points.Comma) is keeps = λ a ahead. (ahead.0, comma_entries t is ahead.1, ahead.2)
more_entries_before limit t false goals behind (kinds.Mark points.CloseBrace) is keeps = λ a ahead. (a, brace_more t is keeps, ahead)
more_entries_before limit t false goals behind _ is keeps = tt

-- texts
hides : (w : List ℕ) → HidesDefinition w → hides_definition w ≡ true
hides [] h = absurd (nothing_is h.0)
  where
    nothing_is : ◌≡◌ {A = ℕ} 0 0x5f → ⊥
    nothing_is e = omega (arith, e)
hides (x ∷ []) h = absurd (nothing_is h.1)
  where
    nothing_is : ◌≡◌ {A = ℕ} 0 0x23 → ⊥
    nothing_is e = omega (arith, e)
hides (x ∷ y ∷ w) h = let e : x ≡ 0x5f = h.0 in let f : y ≡ 0x23 = h.1 in
    subst (λ z. hides_definition (z ∷ y ∷ w) ≡ true) (sym e) (subst (λ z. hides_definition (0x5f ∷ z ∷ w) ≡ true) (sym f) refl)

package_before : (limit : Limit) (t : Token) (goals : Stack) (kind : TokenKind) → t.kind ≡ kind → Before limit t (Goal.package_word ∷ goals) (take_package goals kind)
package_before limit t goals (kinds.Name w) is = λ a ahead. (ahead.0, λ first kind. package_whole first t (identifiers.Plain w) kind is tt ahead.1, ahead.2)
package_before limit t goals (kinds.Hidden w) is = by_word (hides_definition w) refl
  where
    by_word : (hidden : Bool) → hides_definition w ≡ hidden → Before limit t (Goal.package_word ∷ goals) (if hidden then None else Some (Goal.package_end ∷ goals))
    by_word true word = tt
    by_word false word = λ a ahead.
        (ahead.0, λ first kind. package_whole first t (identifiers.Hidden w) kind is (λ h. let e : true ≡ false = sym (hides w h) ∙ word in cc) ahead.1, ahead.2)
package_before limit t goals kind is =
    through limit t (Goal.mark ∷ Goal.value ∷ Goal.more_entries true ∷ goals) (Goal.package_word ∷ goals) (take_mark (Goal.value ∷ Goal.more_entries true ∷ goals) kind)
    (λ a ahead. (ahead.2.2.0, λ first word. entries_whole (entry_entries (field_entry true first (names.Plain (codes "package")) word ahead.1 ahead.2.1) ahead.2.2.1), ahead.2.2.2))
    (mark_before limit t (Goal.value ∷ Goal.more_entries true ∷ goals) kind is)

package_end_before : (limit : Limit) (t : Token) (goals : Stack) (behind : Option Stack) (kind : TokenKind) → t.kind ≡ kind → Before limit t (Goal.package_end ∷ goals) (take_token Goal.package_end goals behind kind)
package_end_before limit t goals behind (kinds.Mark points.Comma) is = λ a ahead. (ahead.0, comma_package t is ahead.1, ahead.2)
package_end_before limit t goals behind _ is = tt

text_before : (limit : Limit) (t : Token) (goals : Stack) (kind : TokenKind) → t.kind ≡ kind → Keeps limit (beneath goals) → Before limit t (Goal.text ∷ goals) (take_text goals kind)
text_before limit t goals (kinds.Name w) is keeps = by_word (is_word (codes "package") w) refl
  where
    by_word : (packaged : Bool) → is_word (codes "package") w ≡ packaged
        → Before limit t (Goal.text ∷ goals) (if packaged then Some (Goal.package_word ∷ goals) else Some (Goal.mark ∷ Goal.value ∷ Goal.more_entries true ∷ goals))
    by_word true word = λ a ahead. (ahead.0, ahead.1 t (is ∙ ap kinds.Name (word_is (codes "package") w word)), ahead.2)
    by_word false word = λ a ahead. (ahead.2.2.0, entries_whole (entry_entries (field_entry true t (names.Plain w) is ahead.1 ahead.2.1) ahead.2.2.1), ahead.2.2.2)
text_before limit t goals kind is keeps =
    through limit t (Goal.entries true ∷ goals) (Goal.text ∷ goals) (take_entry true (Goal.more_entries true ∷ goals) kind) (λ a ahead. (ahead.0, entries_whole ahead.1, ahead.2))
    (entry_before limit t true goals kind is keeps)

-- every goal
take_before : (limit : Limit) (t : Token) (goal : Goal) (goals : Stack) (behind : Option Stack) (kind : TokenKind) → t.kind ≡ kind → Keeps limit (under goal (beneath goals)) → Keeps limit (beneath goals)
    → Before limit t goals behind → Before limit t (goal ∷ goals) (take_token goal goals behind kind)
take_before limit t Goal.text goals behind kind is keeps low before = text_before limit t goals kind is low
take_before limit t Goal.package_word goals behind kind is keeps low before = package_before limit t goals kind is
take_before limit t Goal.package_end goals behind kind is keeps low before = package_end_before limit t goals behind kind is
take_before limit t (Goal.entries top) goals behind kind is keeps low before = entries_before limit t top goals behind kind is keeps
take_before limit t (Goal.more_entries top) goals behind kind is keeps low before = more_entries_before limit t top goals behind kind is keeps
take_before limit t Goal.mark goals behind kind is keeps low before = mark_before limit t goals kind is
take_before limit t Goal.colon goals behind kind is keeps low before = colon_before limit t goals behind kind is
take_before limit t Goal.value goals behind kind is keeps low before = value_before limit t goals kind is low
take_before limit t (Goal.value_name w) goals behind kind is keeps low before = value_name_before limit t goals w behind kind is low before
take_before limit t Goal.value_text goals behind kind is keeps low before = value_text_before limit t goals behind kind is low before
take_before limit t Goal.chained goals behind kind is keeps low before = through limit t goals (Goal.chained ∷ goals) behind (λ a ahead. (a, refl, ahead)) before
take_before limit t Goal.expression goals behind kind is keeps low before = expression_before limit t goals kind is low
take_before limit t Goal.term goals behind kind is keeps low before = term_before limit t goals kind is low
take_before limit t Goal.unary goals behind kind is keeps low before = unary_before limit t goals kind is low
take_before limit t Goal.more_parts goals behind kind is keeps low before = more_parts_before limit t goals behind kind is low before
take_before limit t Goal.bar goals behind kind is keeps low before = bar_before limit t goals behind kind is
take_before limit t Goal.more_terms goals behind kind is keeps low before = more_terms_before limit t goals behind kind is low before
take_before limit t Goal.signed goals behind kind is keeps low before = signed_before limit t goals kind is
take_before limit t Goal.signed_or_text goals behind kind is keeps low before = signed_or_text_before limit t goals behind kind is
take_before limit t (Goal.magnitude sign) goals behind kind is keeps low before = magnitude_before limit t sign goals behind kind is
take_before limit t Goal.behind_close goals behind kind is keeps low before = behind_close_before limit t goals behind kind is low before
take_before limit t Goal.closed goals behind kind is keeps low before = closed_before limit t goals behind kind is
take_before limit t Goal.parenthesis goals behind kind is keeps low before = parenthesis_before limit t goals behind kind is
take_before limit t Goal.parenthesis_end goals behind kind is keeps low before = parenthesis_end_before limit t goals behind kind is
take_before limit t Goal.elements goals behind kind is keeps low before = elements_before limit t goals kind is keeps
take_before limit t Goal.more_elements goals behind kind is keeps low before = more_elements_before limit t goals behind kind is keeps
take_before limit t Goal.dots goals behind kind is keeps low before = dots_before limit t goals kind is keeps
take_before limit t Goal.bracket goals behind kind is keeps low before = bracket_before limit t goals behind kind is
take_before limit t Goal.bracket_end goals behind kind is keeps low before = bracket_end_before limit t goals behind kind is

-- a token that a stack takes, and what is ahead after it, were ahead of the stack
pub step_before : (limit : Limit) (t : Token) (goals : Stack) → Keeps limit (beneath goals) → Before limit t goals (step_stack goals t.kind)
step_before limit t [] keeps = tt
step_before limit t (goal ∷ goals) keeps =
    let low : Keeps limit (beneath goals) = keeps_from keeps (less_below goal (beneath goals)) in
    take_before limit t goal goals (step_stack goals t.kind) t.kind refl keeps low (step_before limit t goals low)
