-- A token that the recogniser takes, and then what is ahead after it, is what was ahead before it.
use Rattle.std.proofs.Common.{◌≡◌, refl, sym, ap, subst, ◌∙◌, ℕ, inl, inr, Bool, true, false, List, ◌∷◌, codes, Option, arith}
use Rattle.std.specs.Prelude.{None, Some, ⊤, nat_le, ◌≤◌, if◌then◌else◌}
use Rattle.std.proofs.lemmas.Bool.{leb-true}
use Rattle.std.specs.Cmp.Lexicographic.{same_text}
use Rattle.cue_lex.specs.declared.token.Token.{Token}
use Rattle.cue_lex.specs.declared.token.TokenKind.{TokenKind}
use Rattle.cue_lex.specs.declared.token.TokenKind.TheVariants as kinds
use Rattle.cue_lex.specs.declared.punctuation.Punctuation.TheVariants as points
use Rattle.cue_syntax.specs.declared.tree.Comparison.TheVariants as comparisons
use Rattle.cue_syntax.specs.declared.tree.LabelName.TheVariants as names
use Rattle.cue_syntax.specs.declared.tree.Mark.TheVariants as marks
use Rattle.cue_syntax.specs.declared.tree.Sign.{Sign}
use Rattle.cue_syntax.specs.declared.tree.Sign.TheVariants as signs
use Rattle.cue_syntax.specs.Syntax.{no_elements, no_branches}
use Rattle.cue_syntax.specs.Grammar.{Limit, greatest_magnitude}
use Rattle.cue_syntax.specs.Recogniser.{Goal, Stack, is_word, is_keyword, take_mark, take_name, take_integer, take_unary, take_term, take_expression, take_value, take_signed, take_behind_operand, take_behind_name, take_value_name, take_value_text, take_token}
use Rattle.cue_syntax.proofs.ReadingsJoin.{reads_none}
use Rattle.cue_syntax.proofs.StillToRead.{beneath, Keeps, Valued, MoreParts, MoreTerms, Ahead}
use Rattle.cue_syntax.proofs.EachStackEnds.{keeps_from, reads_kind}
use Rattle.cue_syntax.proofs.ExpressionsByParts.{unary_parts, next_part, conjunct_term, star_term, next_term, some_terms, term_terms, conjunct_terms, name_unary, definition_unary, hidden_unary, text_unary, bottom_unary, signed_unary, integer_signed, minus_signed, plus_signed, bound_unary, other_unary, parenthesis_unary, struct_unary, list_unary, close_unary}
use Rattle.cue_syntax.proofs.DeclarationsByParts.{expression_value, chained_value}

-- the token, and then what is ahead after it, was ahead of the goals
abbrev pub Before : Limit → Token → Stack → Option Stack → Type 0
Before limit t goals None = ⊤
Before limit t goals (Some next) = (a : List Token) → Ahead limit next a → Ahead limit goals (t ∷ a)

-- where all that is ahead of one stack is ahead of another, so is a token and what is ahead after it
pub through : (limit : Limit) (t : Token) (others goals : Stack) (o : Option Stack) → ((a : List Token) → Ahead limit others a → Ahead limit goals a) → Before limit t others o → Before limit t goals o
through limit t others goals None change before = tt
through limit t others goals (Some next) change before = λ a ahead. change (t ∷ a) (before a ahead)

-- what may be left out
-- there may be no further parts
pub no_parts : {limit : Limit} {n : ℕ} {a : List Token} → Keeps limit n → MoreParts limit n a a
no_parts keeps = record { part = no_elements; reads = reads_none; good = (tt, tt); within = keeps_from keeps (omega arith) }

-- there may be no further terms
pub no_terms : {limit : Limit} {n : ℕ} {a : List Token} → Keeps limit n → MoreTerms limit n a a
no_terms keeps = record { part = no_branches; reads = reads_none; good = tt; within = keeps_from keeps (omega arith) }

-- bytes that pass the test for a word are that word
pub word_is : (word w : List ℕ) → is_word word w ≡ true → w ≡ word
word_is word w is = same_text w word (sym is)

-- operands
name_before : (limit : Limit) (t : Token) (goals : Stack) (w : List ℕ) → t.kind ≡ kinds.Name w → Keeps limit (beneath goals) → Before limit t (Goal.unary ∷ goals) (take_name goals w)
name_before limit t goals w kind keeps = by_word (is_keyword w) refl (is_word (codes "close") w) refl
  where
    by_word : (keyword : Bool) → is_keyword w ≡ keyword → (close : Bool) → is_word (codes "close") w ≡ close
        → Before limit t (Goal.unary ∷ goals) (if keyword then None else (if close then Some (Goal.behind_close ∷ goals) else Some goals))
    by_word true is close closes = tt
    by_word false is true closes = λ a ahead. (ahead.0, ahead.1 t (kind ∙ ap kinds.Name (word_is (codes "close") w closes)), ahead.2)
    by_word false is false closes = λ a ahead. (a, name_unary t w kind is keeps, ahead)

integer_before : (limit : Limit) (t : Token) (n : ℕ) (sign : Sign) (goals others : Stack) → (n ≤ greatest_magnitude sign → (a : List Token) → Ahead limit goals a → Ahead limit others (t ∷ a))
    → Before limit t others (take_integer sign goals n)
integer_before limit t n sign goals others reads = by_range (nat_le n (greatest_magnitude sign)) refl
  where
    by_range : (fits : Bool) → nat_le n (greatest_magnitude sign) ≡ fits → Before limit t others (if fits then Some goals else None)
    by_range true fits = reads (leb-true n (greatest_magnitude sign) fits)
    by_range false fits = tt

-- a token that an operand takes, and what is ahead after it, were ahead of the operand
pub unary_before : (limit : Limit) (t : Token) (goals : Stack) (kind : TokenKind) → t.kind ≡ kind → Keeps limit (beneath goals) → Before limit t (Goal.unary ∷ goals) (take_unary goals kind)
unary_before limit t goals (kinds.Name w) is keeps = name_before limit t goals w is keeps
unary_before limit t goals (kinds.Definition w) is keeps = λ a ahead. (a, definition_unary t w is keeps, ahead)
unary_before limit t goals (kinds.Hidden w) is keeps = λ a ahead. (a, hidden_unary t w is keeps, ahead)
unary_before limit t goals (kinds.Text w) is keeps = λ a ahead. (a, text_unary t w is keeps, ahead)
unary_before limit t goals (kinds.Integer n) is keeps = integer_before limit t n signs.Absent goals (Goal.unary ∷ goals) (λ range a ahead. (a, signed_unary (integer_signed t n is range) keeps, ahead))
unary_before limit t goals kinds.Bottom is keeps = λ a ahead. (a, bottom_unary t is keeps, ahead)
unary_before limit t goals (kinds.Mark points.Minus) is keeps = λ a ahead. (ahead.0, signed_unary (minus_signed t is ahead.1) keeps, ahead.2)
unary_before limit t goals (kinds.Mark points.Plus) is keeps = λ a ahead. (ahead.0, signed_unary (plus_signed t is ahead.1) keeps, ahead.2)
unary_before limit t goals (kinds.Mark points.Less) is keeps = λ a ahead. (ahead.0, bound_unary t comparisons.Less is ahead.1 keeps, ahead.2)
unary_before limit t goals (kinds.Mark points.AtMost) is keeps = λ a ahead. (ahead.0, bound_unary t comparisons.AtMost is ahead.1 keeps, ahead.2)
unary_before limit t goals (kinds.Mark points.Greater) is keeps = λ a ahead. (ahead.0, bound_unary t comparisons.Greater is ahead.1 keeps, ahead.2)
unary_before limit t goals (kinds.Mark points.AtLeast) is keeps = λ a ahead. (ahead.0, bound_unary t comparisons.AtLeast is ahead.1 keeps, ahead.2)
unary_before limit t goals (kinds.Mark points.NotEqual) is keeps = λ a ahead. (ahead.0, other_unary t is ahead.1 keeps, ahead.2)
unary_before limit t goals (kinds.Mark points.OpenParenthesis) is keeps = λ a ahead. (ahead.2.0, parenthesis_unary t is ahead.1 ahead.2.1, ahead.2.2)
unary_before limit t goals (kinds.Mark points.OpenBrace) is keeps = λ a ahead. (ahead.0, struct_unary t is ahead.1, ahead.2)
unary_before limit t goals (kinds.Mark points.OpenBracket) is keeps = λ a ahead. (ahead.0, list_unary t is ahead.1, ahead.2)
unary_before limit t goals _ is keeps = tt

-- a token that an integer takes, and what is ahead after it, were ahead of the integer
pub signed_before : (limit : Limit) (t : Token) (goals : Stack) (kind : TokenKind) → t.kind ≡ kind → Before limit t (Goal.signed ∷ goals) (take_signed goals kind)
signed_before limit t goals (kinds.Integer n) is = integer_before limit t n signs.Absent goals (Goal.signed ∷ goals) (λ range a ahead. (a, integer_signed t n is range, ahead))
signed_before limit t goals (kinds.Mark points.Minus) is = λ a ahead. (ahead.0, minus_signed t is ahead.1, ahead.2)
signed_before limit t goals (kinds.Mark points.Plus) is = λ a ahead. (ahead.0, plus_signed t is ahead.1, ahead.2)
signed_before limit t goals _ is = tt

-- a token that is taken after `!=`, and what is ahead after it, were ahead there
pub signed_or_text_before : (limit : Limit) (t : Token) (goals : Stack) (behind : Option Stack) (kind : TokenKind) → t.kind ≡ kind
    → Before limit t (Goal.signed_or_text ∷ goals) (take_token Goal.signed_or_text goals behind kind)
signed_or_text_before limit t goals behind (kinds.Text w) is = λ a ahead. (a, inr (record { part = w; reads = reads_kind t is reads_none }), ahead)
signed_or_text_before limit t goals behind kind is = through limit t (Goal.signed ∷ goals) (Goal.signed_or_text ∷ goals) (take_signed goals kind) (λ a ahead. (ahead.0, inl ahead.1, ahead.2)) (signed_before limit t goals kind is)

-- a token that is taken after a sign, and what is ahead after it, were ahead there
pub magnitude_before : (limit : Limit) (t : Token) (sign : Sign) (goals : Stack) (behind : Option Stack) (kind : TokenKind) → t.kind ≡ kind → Before limit t (Goal.magnitude sign ∷ goals) (take_token (Goal.magnitude sign) goals behind kind)
magnitude_before limit t sign goals behind (kinds.Integer n) is = integer_before limit t n sign goals (Goal.magnitude sign ∷ goals) (λ range a ahead. (a, record { part = n; reads = reads_kind t is reads_none; range = range }, ahead))
magnitude_before limit t sign goals behind _ is = tt

-- expressions
-- a token that a term takes, and what is ahead after it, were ahead of the term
pub term_before : (limit : Limit) (t : Token) (goals : Stack) (kind : TokenKind) → t.kind ≡ kind → Keeps limit (beneath goals) → Before limit t (Goal.term ∷ goals) (take_term goals kind)
term_before limit t goals (kinds.Mark points.Star) is keeps = λ a ahead. (ahead.0, star_term t is ahead.1, ahead.2)
term_before limit t goals kind is keeps = through limit t (Goal.unary ∷ Goal.more_parts ∷ goals) (Goal.term ∷ goals) (take_unary (Goal.more_parts ∷ goals) kind)
    (λ a ahead. (ahead.2.0, conjunct_term (unary_parts ahead.1 ahead.2.1), ahead.2.2))
    (unary_before limit t (Goal.more_parts ∷ goals) kind is keeps)

-- a token that an expression takes, and what is ahead after it, were ahead of the expression
pub expression_before : (limit : Limit) (t : Token) (goals : Stack) (kind : TokenKind) → t.kind ≡ kind → Keeps limit (beneath goals) → Before limit t (Goal.expression ∷ goals) (take_expression goals kind)
expression_before limit t goals (kinds.Mark points.Star) is keeps = λ a ahead. (ahead.2.0, term_terms (star_term t is ahead.1) ahead.2.1, ahead.2.2)
expression_before limit t goals kind is keeps =
    through limit t (Goal.unary ∷ Goal.more_parts ∷ Goal.more_terms ∷ goals) (Goal.expression ∷ goals) (take_unary (Goal.more_parts ∷ Goal.more_terms ∷ goals) kind)
    (λ a ahead. (ahead.2.2.0, conjunct_terms (unary_parts ahead.1 ahead.2.1) ahead.2.2.1, ahead.2.2.2))
    (unary_before limit t (Goal.more_parts ∷ Goal.more_terms ∷ goals) kind is keeps)

-- a token that further parts take or leave to those below, and what is ahead after it, were ahead of them
pub more_parts_before : (limit : Limit) (t : Token) (goals : Stack) (behind : Option Stack) (kind : TokenKind) → t.kind ≡ kind → Keeps limit (beneath goals) → Before limit t goals behind
    → Before limit t (Goal.more_parts ∷ goals) (take_token Goal.more_parts goals behind kind)
more_parts_before limit t goals behind (kinds.Mark points.Ampersand) is keeps before = λ a ahead. (ahead.2.0, next_part t is ahead.1 ahead.2.1, ahead.2.2)
more_parts_before limit t goals behind _ is keeps before = through limit t goals (Goal.more_parts ∷ goals) behind (λ a ahead. (a, no_parts keeps, ahead)) before

-- a token that is taken after a marked first term, and what is ahead after it, were ahead there
pub bar_before : (limit : Limit) (t : Token) (goals : Stack) (behind : Option Stack) (kind : TokenKind) → t.kind ≡ kind → Before limit t (Goal.bar ∷ goals) (take_token Goal.bar goals behind kind)
bar_before limit t goals behind (kinds.Mark points.Bar) is = λ a ahead. (ahead.2.0, next_term t is ahead.1 ahead.2.1, ahead.2.2)
bar_before limit t goals behind _ is = tt

-- a token that further terms take or leave to those below, and what is ahead after it, were ahead of them
pub more_terms_before : (limit : Limit) (t : Token) (goals : Stack) (behind : Option Stack) (kind : TokenKind) → t.kind ≡ kind → Keeps limit (beneath goals) → Before limit t goals behind
    → Before limit t (Goal.more_terms ∷ goals) (take_token Goal.more_terms goals behind kind)
more_terms_before limit t goals behind (kinds.Mark points.Bar) is keeps before = λ a ahead. (ahead.2.0, some_terms (next_term t is ahead.1 ahead.2.1), ahead.2.2)
more_terms_before limit t goals behind _ is keeps before = through limit t goals (Goal.more_terms ∷ goals) behind (λ a ahead. (a, no_terms keeps, ahead)) before

operand_before : (limit : Limit) (t : Token) (goals : Stack) (behind : Option Stack) (kind : TokenKind) → t.kind ≡ kind → Keeps limit (beneath goals) → Before limit t goals behind
    → Before limit t (Goal.more_parts ∷ Goal.more_terms ∷ goals) (take_behind_operand goals behind kind)
operand_before limit t goals behind (kinds.Mark points.Ampersand) is keeps before = λ a ahead. (ahead.2.0, next_part t is ahead.1 ahead.2.1, ahead.2.2)
operand_before limit t goals behind (kinds.Mark points.Bar) is keeps before = λ a ahead. (t ∷ a, no_parts keeps, (ahead.2.0, some_terms (next_term t is ahead.1 ahead.2.1), ahead.2.2))
operand_before limit t goals behind _ is keeps before =
    through limit t goals (Goal.more_parts ∷ Goal.more_terms ∷ goals) behind (λ a ahead. (a, no_parts keeps, (a, no_terms keeps, ahead))) before

-- values
-- a token that is taken after a label's name, and what is ahead after it, were ahead there
pub mark_before : (limit : Limit) (t : Token) (goals : Stack) (kind : TokenKind) → t.kind ≡ kind → Before limit t (Goal.mark ∷ goals) (take_mark goals kind)
mark_before limit t goals (kinds.Mark points.Colon) is = λ a ahead. (a, record { part = marks.Regular; reads = reads_kind t is reads_none }, ahead)
mark_before limit t goals (kinds.Mark points.Question) is = λ a ahead. (ahead.0, record { part = marks.Optional; reads = reads_kind t is ahead.1 }, ahead.2)
mark_before limit t goals (kinds.Mark points.Exclamation) is = λ a ahead. (ahead.0, record { part = marks.Required; reads = reads_kind t is ahead.1 }, ahead.2)
mark_before limit t goals _ is = tt

-- a token that is taken as a colon, and what is ahead after it, were ahead there
pub colon_before : (limit : Limit) (t : Token) (goals : Stack) (behind : Option Stack) (kind : TokenKind) → t.kind ≡ kind → Before limit t (Goal.colon ∷ goals) (take_token Goal.colon goals behind kind)
colon_before limit t goals behind (kinds.Mark points.Colon) is = λ a ahead. (a, reads_kind t is reads_none, ahead)
colon_before limit t goals behind _ is = tt

-- a token that a value takes, and what is ahead after it, were ahead of the value
pub value_before : (limit : Limit) (t : Token) (goals : Stack) (kind : TokenKind) → t.kind ≡ kind → Keeps limit (beneath goals) → Before limit t (Goal.value ∷ goals) (take_value goals kind)
value_before limit t goals (kinds.Name w) is keeps = λ a ahead. (ahead.0, ahead.1 t is, ahead.2)
value_before limit t goals (kinds.Text w) is keeps = λ a ahead. (ahead.0, ahead.1 t w is, ahead.2)
value_before limit t goals kind is keeps =
    through limit t (Goal.expression ∷ goals) (Goal.value ∷ goals) (take_expression goals kind) (λ a ahead. (ahead.0, expression_value ahead.1, ahead.2)) (expression_before limit t goals kind is keeps)

-- a name or a string that begins a value is a label
name_label : (limit : Limit) (goals : Stack) (w : List ℕ) (a : List Token) → Ahead limit (Goal.mark ∷ Goal.value ∷ Goal.chained ∷ goals) a → Ahead limit (Goal.value_name w ∷ goals) a
name_label limit goals w a ahead = (ahead.2.2.0, λ first kind. subst (λ z. Valued limit (beneath goals) (first ∷ a) z) ahead.2.2.1 (chained_value first (names.Plain w) kind ahead.1 ahead.2.1), ahead.2.2.2)

text_label : (limit : Limit) (goals : Stack) (a : List Token) → Ahead limit (Goal.mark ∷ Goal.value ∷ Goal.chained ∷ goals) a → Ahead limit (Goal.value_text ∷ goals) a
text_label limit goals a ahead = (ahead.2.2.0, λ first w kind. subst (λ z. Valued limit (beneath goals) (first ∷ a) z) ahead.2.2.1 (chained_value first (names.Quoted w) kind ahead.1 ahead.2.1), ahead.2.2.2)

name_mark : (limit : Limit) (t : Token) (goals : Stack) (w : List ℕ) (kind : TokenKind) → t.kind ≡ kind
    → Before limit t (Goal.value_name w ∷ goals) (take_mark (Goal.value ∷ Goal.chained ∷ goals) kind)
name_mark limit t goals w kind is =
    through limit t (Goal.mark ∷ Goal.value ∷ Goal.chained ∷ goals) (Goal.value_name w ∷ goals) (take_mark (Goal.value ∷ Goal.chained ∷ goals) kind) (name_label limit goals w)
    (mark_before limit t (Goal.value ∷ Goal.chained ∷ goals) kind is)

text_mark : (limit : Limit) (t : Token) (goals : Stack) (kind : TokenKind) → t.kind ≡ kind
    → Before limit t (Goal.value_text ∷ goals) (take_mark (Goal.value ∷ Goal.chained ∷ goals) kind)
text_mark limit t goals kind is =
    through limit t (Goal.mark ∷ Goal.value ∷ Goal.chained ∷ goals) (Goal.value_text ∷ goals) (take_mark (Goal.value ∷ Goal.chained ∷ goals) kind) (text_label limit goals)
    (mark_before limit t (Goal.value ∷ Goal.chained ∷ goals) kind is)

-- or an operand
pub name_operand : (limit : Limit) (goals : Stack) (w : List ℕ) → is_keyword w ≡ false → Keeps limit (beneath goals) → (a : List Token)
    → Ahead limit (Goal.more_parts ∷ Goal.more_terms ∷ goals) a → Ahead limit (Goal.value_name w ∷ goals) a
name_operand limit goals w other keeps a ahead = (ahead.2.0, λ first kind. expression_value (conjunct_terms (unary_parts (name_unary first w kind other keeps) ahead.1) ahead.2.1), ahead.2.2)

-- what is ahead after a string that is an operand is ahead after one that begins a value
pub text_operand : (limit : Limit) (goals : Stack) → Keeps limit (beneath goals) → (a : List Token) → Ahead limit (Goal.more_parts ∷ Goal.more_terms ∷ goals) a → Ahead limit (Goal.value_text ∷ goals) a
text_operand limit goals keeps a ahead = (ahead.2.0, λ first w kind. expression_value (conjunct_terms (unary_parts (text_unary first w kind keeps) ahead.1) ahead.2.1), ahead.2.2)

behind_name_before : (limit : Limit) (t : Token) (goals : Stack) (w : List ℕ) (behind : Option Stack) (kind : TokenKind) → t.kind ≡ kind → Keeps limit (beneath goals) → Before limit t goals behind
    → Before limit t (Goal.value_name w ∷ goals) (take_behind_name w goals behind kind)
behind_name_before limit t goals w behind (kinds.Mark points.OpenParenthesis) is keeps before = by_word (is_keyword w) refl (is_word (codes "close") w) refl
  where
    by_word : (keyword : Bool) → is_keyword w ≡ keyword → (close : Bool) → is_word (codes "close") w ≡ close
        → Before limit t (Goal.value_name w ∷ goals) (if keyword then None else (if close then Some (Goal.closed ∷ Goal.more_parts ∷ Goal.more_terms ∷ goals) else behind))
    by_word true keyword close closes = tt
    by_word false other true closes = λ a ahead.
        (ahead.2.2.0, λ first kind. expression_value (conjunct_terms (unary_parts (close_unary first t (kind ∙ ap kinds.Name (word_is (codes "close") w closes)) is ahead.1) ahead.2.1) ahead.2.2.1), ahead.2.2.2)
    by_word false other false closes = through limit t goals (Goal.value_name w ∷ goals) behind (λ a ahead. name_operand limit goals w other keeps a (a, no_parts keeps, (a, no_terms keeps, ahead))) before
behind_name_before limit t goals w behind kind is keeps before = by_word (is_keyword w) refl
  where
    by_word : (keyword : Bool) → is_keyword w ≡ keyword → Before limit t (Goal.value_name w ∷ goals) (if keyword then None else take_behind_operand goals behind kind)
    by_word true keyword = tt
    by_word false other = through limit t (Goal.more_parts ∷ Goal.more_terms ∷ goals) (Goal.value_name w ∷ goals) (take_behind_operand goals behind kind) (name_operand limit goals w other keeps)
        (operand_before limit t goals behind kind is keeps before)

-- a token that is taken after a name that begins a value, and what is ahead after it, were ahead there
pub value_name_before : (limit : Limit) (t : Token) (goals : Stack) (w : List ℕ) (behind : Option Stack) (kind : TokenKind) → t.kind ≡ kind → Keeps limit (beneath goals) → Before limit t goals behind
    → Before limit t (Goal.value_name w ∷ goals) (take_value_name w goals behind kind)
value_name_before limit t goals w behind (kinds.Mark points.Colon) is keeps before = name_mark limit t goals w (kinds.Mark points.Colon) is
value_name_before limit t goals w behind (kinds.Mark points.Question) is keeps before = name_mark limit t goals w (kinds.Mark points.Question) is
value_name_before limit t goals w behind (kinds.Mark points.Exclamation) is keeps before = name_mark limit t goals w (kinds.Mark points.Exclamation) is
value_name_before limit t goals w behind kind is keeps before = behind_name_before limit t goals w behind kind is keeps before

-- a token that is taken after a string that begins a value, and what is ahead after it, were ahead there
pub value_text_before : (limit : Limit) (t : Token) (goals : Stack) (behind : Option Stack) (kind : TokenKind) → t.kind ≡ kind → Keeps limit (beneath goals) → Before limit t goals behind
    → Before limit t (Goal.value_text ∷ goals) (take_value_text goals behind kind)
value_text_before limit t goals behind (kinds.Mark points.Colon) is keeps before = text_mark limit t goals (kinds.Mark points.Colon) is
value_text_before limit t goals behind (kinds.Mark points.Question) is keeps before = text_mark limit t goals (kinds.Mark points.Question) is
value_text_before limit t goals behind (kinds.Mark points.Exclamation) is keeps before = text_mark limit t goals (kinds.Mark points.Exclamation) is
value_text_before limit t goals behind kind is keeps before =
    through limit t (Goal.more_parts ∷ Goal.more_terms ∷ goals) (Goal.value_text ∷ goals) (take_behind_operand goals behind kind) (text_operand limit goals keeps) (operand_before limit t goals behind kind is keeps before)
