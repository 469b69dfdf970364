-- Goals that begin alike, and the small pieces of a tree: words, signs, marks and labels.
use Rattle.std.proofs.Common.{◌≡◌, ◌≤◌, ◌+◌, ◌∙◌, ap, ap₂, sym, refl, arith, ℕ, Bool, true, false, List, [], ◌∷◌, ◌++◌, codes, None, Some, if◌then◌else◌}
use Rattle.cue_lex.specs.declared.token.Token.{Token}
use Rattle.cue_lex.specs.declared.token.TokenKind.{TokenKind}
use Rattle.cue_lex.specs.declared.token.TokenKind.TheVariants as kinds
use Rattle.cue_lex.specs.declared.punctuation.Punctuation.TheVariants as points
use Rattle.cue_syntax.specs.declared.tree.Label.{Label}
use Rattle.cue_syntax.specs.declared.tree.LabelName.{LabelName}
use Rattle.cue_syntax.specs.declared.tree.LabelName.TheVariants as names
use Rattle.cue_syntax.specs.declared.tree.Mark.{Mark}
use Rattle.cue_syntax.specs.declared.tree.Mark.TheVariants as marks
use Rattle.cue_syntax.specs.declared.tree.Sign.{Sign}
use Rattle.cue_syntax.specs.declared.tree.Sign.TheVariants as signs
use Rattle.cue_syntax.specs.declared.tree.Signed.{Signed}
use Rattle.cue_syntax.specs.Spelling.{SpellsTree, one, comma_if, label_kind, spell_sign, spell_signed, spell_mark, spell_label}
use Rattle.cue_syntax.specs.Grammar.{Limit, Within, IsInRange, greatest_magnitude}
use Rattle.cue_syntax.specs.Viability.{BeginsExpression}
use Rattle.cue_syntax.specs.Recogniser.{Stack, step_stack, is_over, rest_where_stuck, rest_where_stuck_behind, levels_of, depth, is_word, is_keyword, mark, colon, value, value_name, value_text, chained, expression, term, unary, more_parts, more_terms, signed, signed_or_text, magnitude, behind_close, closed, parenthesis, parenthesis_end, elements, more_elements, dots, bracket, bracket_end}
use Rattle.cue_syntax.proofs.WhatMayFollow.{AtEnd, BeginsOperand, NoMark, EndsOperand}
use Rattle.cue_syntax.proofs.GoalsAtTokens.{magnitude_step}
use Rattle.cue_syntax.proofs.TakesOneToken.{reads_split, within_less, took_token, took, same, over_close}
use Rattle.cue_syntax.proofs.TreesBeginSo.{OpensBy, OpensValue}

-- an expression, a term and an element begin as an operand does
expression_step : (below : Stack) (k : TokenKind) → BeginsOperand k → step_stack (expression ∷ below) k ≡ step_stack (unary ∷ more_parts ∷ more_terms ∷ below) k
expression_step below (kinds.Mark points.Star) begins = absurd begins
expression_step below _ begins = refl

-- where an operand begins, an expression may be read as an operand, further parts and further terms
pub expression_is_operand : (limit : Limit) (below : Stack) (a : List Token) → AtEnd BeginsOperand a
    → rest_where_stuck limit (expression ∷ below) a ≡ rest_where_stuck limit (unary ∷ more_parts ∷ more_terms ∷ below) a
expression_is_operand limit below = same limit (expression ∷ below) (unary ∷ more_parts ∷ more_terms ∷ below) BeginsOperand refl (expression_step below)

term_step : (below : Stack) (k : TokenKind) → BeginsOperand k → step_stack (term ∷ below) k ≡ step_stack (unary ∷ more_parts ∷ below) k
term_step below (kinds.Mark points.Star) begins = absurd begins
term_step below _ begins = refl

-- where an operand begins, a term may be read as an operand and further parts
pub term_is_operand : (limit : Limit) (below : Stack) (a : List Token) → AtEnd BeginsOperand a → rest_where_stuck limit (term ∷ below) a ≡ rest_where_stuck limit (unary ∷ more_parts ∷ below) a
term_is_operand limit below = same limit (term ∷ below) (unary ∷ more_parts ∷ below) BeginsOperand refl (term_step below)

element_step : (below : Stack) (k : TokenKind) → BeginsExpression k → step_stack (elements ∷ below) k ≡ step_stack (expression ∷ more_elements ∷ below) k
element_step below (kinds.Mark points.CloseBracket) begins = absurd begins
element_step below (kinds.Mark points.Ellipsis) begins = absurd begins
element_step below _ begins = refl

-- where an expression begins, elements may be read as an expression and more elements
pub element_is_expression : (limit : Limit) (below : Stack) (a : List Token) → AtEnd BeginsExpression a
    → rest_where_stuck limit (elements ∷ below) a ≡ rest_where_stuck limit (expression ∷ more_elements ∷ below) a
element_is_expression limit below = same limit (elements ∷ below) (expression ∷ more_elements ∷ below) BeginsExpression refl (element_step below)

dots_step : (below : Stack) (k : TokenKind) → BeginsExpression k → step_stack (dots ∷ below) k ≡ step_stack (expression ∷ bracket ∷ below) k
dots_step below (kinds.Mark points.CloseBracket) begins = absurd begins
dots_step below (kinds.Mark points.Comma) begins = absurd begins
dots_step below _ begins = refl

-- where an expression begins after `...`, it may be read before the end of the list
pub dots_are_expression : (limit : Limit) (below : Stack) (a : List Token) → AtEnd BeginsExpression a → rest_where_stuck limit (dots ∷ below) a ≡ rest_where_stuck limit (expression ∷ bracket ∷ below) a
dots_are_expression limit below = same limit (dots ∷ below) (expression ∷ bracket ∷ below) BeginsExpression refl (dots_step below)

-- what is left to come after a name, which may be `close`
abbrev pub behind_word : Bool → Stack → Stack
behind_word true goals = behind_close ∷ goals
behind_word false goals = goals

-- the goal of an operand takes a name that is no keyword; after `close` a parenthesis may follow
pub name_step : (goals : Stack) (t : List ℕ) (c : Bool) → is_keyword t ≡ false → is_word (codes "close") t ≡ c → step_stack (unary ∷ goals) (kinds.Name t) ≡ Some (behind_word c goals)
name_step goals t true free word = ap₂ (λ k w. if k then None else (if w then Some (behind_close ∷ goals) else Some goals)) free word
name_step goals t false free word = ap₂ (λ k w. if k then None else (if w then Some (behind_close ∷ goals) else Some goals)) free word

named_step : (below : Stack) (t : List ℕ) (c : Bool) → is_keyword t ≡ false → is_word (codes "close") t ≡ c → (k : TokenKind) → NoMark k
    → step_stack (value_name t ∷ below) k ≡ step_stack (behind_word c (more_parts ∷ more_terms ∷ below)) k
named_step below t c free word (kinds.Mark points.Colon) clear = absurd clear
named_step below t c free word (kinds.Mark points.Question) clear = absurd clear
named_step below t c free word (kinds.Mark points.Exclamation) clear = absurd clear
named_step below t true free word (kinds.Mark points.OpenParenthesis) clear =
    ap₂ (λ k w. if k then None else (if w then Some (closed ∷ more_parts ∷ more_terms ∷ below) else step_stack below (kinds.Mark points.OpenParenthesis))) free word
named_step below t false free word (kinds.Mark points.OpenParenthesis) clear =
    ap₂ (λ k w. if k then None else (if w then Some (closed ∷ more_parts ∷ more_terms ∷ below) else step_stack below (kinds.Mark points.OpenParenthesis))) free word
named_step below t true free word kind clear = ap (λ k. if k then None else step_stack (behind_word true (more_parts ∷ more_terms ∷ below)) kind) free
named_step below t false free word kind clear = ap (λ k. if k then None else step_stack (behind_word false (more_parts ∷ more_terms ∷ below)) kind) free

named_over : (below : Stack) (t : List ℕ) (c : Bool) → is_keyword t ≡ false → is_over (value_name t ∷ below) ≡ is_over (behind_word c (more_parts ∷ more_terms ∷ below))
named_over below t true free = ap (λ k. if k then false else is_over below) free
named_over below t false free = ap (λ k. if k then false else is_over below) free

texted_step : (below : Stack) (k : TokenKind) → NoMark k → step_stack (value_text ∷ below) k ≡ step_stack (more_parts ∷ more_terms ∷ below) k
texted_step below (kinds.Mark points.Colon) clear = absurd clear
texted_step below (kinds.Mark points.Question) clear = absurd clear
texted_step below (kinds.Mark points.Exclamation) clear = absurd clear
texted_step below _ clear = refl

-- what has still to come after a name opens a level where the name is a keyword alone
free_level : (t : List ℕ) → is_keyword t ≡ false → levels_of (value_name t) ≡ 0
free_level t free = ap (λ k. if k then 1 else 0) free

one_level : (t : List ℕ) → levels_of (value_name t) ≤ 1
one_level t = by (is_keyword t)
  where
    by : (k : Bool) → (if k then 1 else 0) ≤ 1
    by true = omega arith
    by false = omega arith

-- a value with no label is an expression
value_named : (limit : Limit) (below : Stack) (t : Token) (ts : List Token) (s : List ℕ) (c : Bool) → t.kind ≡ kinds.Name s → is_keyword s ≡ false → is_word (codes "close") s ≡ c
    → AtEnd NoMark ts → Within limit (depth below) → rest_where_stuck limit (value ∷ below) (t ∷ ts) ≡ rest_where_stuck limit (expression ∷ below) (t ∷ ts)
value_named limit below t ts s c is free word clear within =
    took_token limit (value ∷ below) (value_name s ∷ below) t ts (ap (step_stack (value ∷ below)) is) (within_less limit (levels_of (value_name s) + depth below) (depth below) (omega (arith, free_level s free)) within)
    ∙ same limit (value_name s ∷ below) (behind_word c (more_parts ∷ more_terms ∷ below)) NoMark (named_over below s c free) (named_step below s c free word) ts clear
    ∙ sym (took_token limit (expression ∷ below) (behind_word c (more_parts ∷ more_terms ∷ below)) t ts
    (ap (step_stack (expression ∷ below)) is ∙ name_step (more_parts ∷ more_terms ∷ below) s c free word) (room c))
  where
    room : (c : Bool) → Within limit (depth (behind_word c (more_parts ∷ more_terms ∷ below)))
    room true = within_less limit _ (depth below) (omega arith) within
    room false = within_less limit _ (depth below) (omega arith) within

value_texted : (limit : Limit) (below : Stack) (t : Token) (ts : List Token) (s : List ℕ) → t.kind ≡ kinds.Text s
    → AtEnd NoMark ts → Within limit (depth below) → rest_where_stuck limit (value ∷ below) (t ∷ ts) ≡ rest_where_stuck limit (expression ∷ below) (t ∷ ts)
value_texted limit below t ts s is clear within =
    took_token limit (value ∷ below) (value_text ∷ below) t ts (ap (step_stack (value ∷ below)) is) (within_less limit _ (depth below) (omega arith) within)
    ∙ same limit (value_text ∷ below) (more_parts ∷ more_terms ∷ below) NoMark refl (texted_step below) ts clear
    ∙ sym (took_token limit (expression ∷ below) (more_parts ∷ more_terms ∷ below) t ts (ap (step_stack (expression ∷ below)) is) (within_less limit _ (depth below) (omega arith) within))

value_alike : (limit : Limit) (below : Stack) (t : Token) (ts : List Token) → step_stack (value ∷ below) t.kind ≡ step_stack (expression ∷ below) t.kind
    → rest_where_stuck limit (value ∷ below) (t ∷ ts) ≡ rest_where_stuck limit (expression ∷ below) (t ∷ ts)
value_alike limit below t ts is = ap (λ s. rest_where_stuck_behind limit s (t ∷ ts) (λ n. rest_where_stuck limit n ts)) is

value_first : (limit : Limit) (below : Stack) (t : Token) (ts : List Token) (k : TokenKind) → t.kind ≡ k → OpensBy k (AtEnd NoMark ts) → Within limit (depth below)
    → rest_where_stuck limit (value ∷ below) (t ∷ ts) ≡ rest_where_stuck limit (expression ∷ below) (t ∷ ts)
value_first limit below t ts (kinds.Name s) is opens within = value_named limit below t ts s (is_word (codes "close") s) is opens.0 refl opens.1 within
value_first limit below t ts (kinds.Text s) is opens within = value_texted limit below t ts s is opens within
value_first limit below t ts _ is opens within = value_alike limit below t ts (ap (step_stack (value ∷ below)) is ∙ sym (ap (step_stack (expression ∷ below)) is))

-- where no label begins, the goal of a value does what that of an expression does
pub value_is_expression : (limit : Limit) (below : Stack) (a : List Token) → OpensValue a → Within limit (depth below) → rest_where_stuck limit (value ∷ below) a ≡ rest_where_stuck limit (expression ∷ below) a
value_is_expression limit below [] opens within = refl
value_is_expression limit below (t ∷ ts) opens within = value_first limit below t ts t.kind refl opens within

-- a name as an operand
pub takes_name : (limit : Limit) (below : Stack) {a b : List Token} (t : List ℕ) → SpellsTree a (one (kinds.Name t)) b → is_keyword t ≡ false → EndsOperand b → Within limit (depth below)
    → rest_where_stuck limit (unary ∷ below) a ≡ rest_where_stuck limit below b
takes_name limit below {a = a} {b = b} t reads free end within = by (is_word (codes "close") t) refl
  where
    by : (c : Bool) → is_word (codes "close") t ≡ c → rest_where_stuck limit (unary ∷ below) a ≡ rest_where_stuck limit below b
    by true word = took limit (unary ∷ below) (behind_close ∷ below) reads (name_step below t true free word) (within_less limit _ (depth below) (omega arith) within) ∙ over_close limit below b end
    by false word = took limit (unary ∷ below) below reads (name_step below t false free word) within

-- a signed integer, for goals that take its sign or its first digits
pub record TakesSigned (goals below : Stack) : Type 0 where
  pub plain : (m : ℕ) → m ≤ greatest_magnitude signs.Absent → step_stack goals (kinds.Integer m) ≡ Some below
  pub minus : step_stack goals (kinds.Mark points.Minus) ≡ Some (magnitude signs.Minus ∷ below)
  pub plus : step_stack goals (kinds.Mark points.Plus) ≡ Some (magnitude signs.Plus ∷ below)

takes_sign : (limit : Limit) (goals below : Stack) → TakesSigned goals below → {a b : List Token} (s : Sign) (m : ℕ) → SpellsTree a (spell_sign s ++ one (kinds.Integer m)) b → m ≤ greatest_magnitude s → Within limit (depth below)
    → rest_where_stuck limit goals a ≡ rest_where_stuck limit below b
takes_sign limit goals below steps signs.Absent m reads le within = took limit goals below reads (steps.plain m le) within
takes_sign limit goals below steps signs.Minus m reads le within =
    let s = reads_split (one (kinds.Mark points.Minus)) (one (kinds.Integer m)) reads in
    took limit goals (magnitude signs.Minus ∷ below) s.first steps.minus (within_less limit _ (depth below) (omega arith) within) ∙ took limit (magnitude signs.Minus ∷ below) below s.second (magnitude_step signs.Minus m below le) within
takes_sign limit goals below steps signs.Plus m reads le within =
    let s = reads_split (one (kinds.Mark points.Plus)) (one (kinds.Integer m)) reads in
    took limit goals (magnitude signs.Plus ∷ below) s.first steps.plus (within_less limit _ (depth below) (omega arith) within) ∙ took limit (magnitude signs.Plus ∷ below) below s.second (magnitude_step signs.Plus m below le) within

-- an integer in range uses up goals that take its sign or its first digits
pub takes_signed : (limit : Limit) (goals below : Stack) → TakesSigned goals below → {a b : List Token} (n : Signed) → SpellsTree a (spell_signed n) b → IsInRange n → Within limit (depth below)
    → rest_where_stuck limit goals a ≡ rest_where_stuck limit below b
takes_signed limit goals below steps n reads range within = takes_sign limit goals below steps n.sign n.magnitude reads range within

-- the goal of an operand takes the sign of an integer or its first digits
pub operand_signed : (below : Stack) → TakesSigned (unary ∷ below) below
operand_signed below = record { plain = λ m le. magnitude_step signs.Absent m below le; minus = refl; plus = refl }

-- the goal of an integer takes its sign or its first digits
pub bound_signed : (below : Stack) → TakesSigned (signed ∷ below) below
bound_signed below = record { plain = λ m le. magnitude_step signs.Absent m below le; minus = refl; plus = refl }

-- the goal after `!=` takes the sign of an integer or its first digits
pub other_signed : (below : Stack) → TakesSigned (signed_or_text ∷ below) below
other_signed below = record { plain = λ m le. magnitude_step signs.Absent m below le; minus = refl; plus = refl }

-- the mark of a label and its colon, for goals that take them
pub record TakesMark (goals next : Stack) : Type 0 where
  pub regular : step_stack goals (kinds.Mark points.Colon) ≡ Some next
  pub optional : step_stack goals (kinds.Mark points.Question) ≡ Some (colon ∷ next)
  pub required : step_stack goals (kinds.Mark points.Exclamation) ≡ Some (colon ∷ next)

-- the mark of a label and its colon bring goals that take them to the next ones
pub takes_mark : (limit : Limit) (goals next : Stack) → TakesMark goals next → {a b : List Token} (m : Mark) → SpellsTree a (spell_mark m ++ one (kinds.Mark points.Colon)) b → Within limit (depth next)
    → rest_where_stuck limit goals a ≡ rest_where_stuck limit next b
takes_mark limit goals next steps marks.Regular reads within = took limit goals next reads steps.regular within
takes_mark limit goals next steps marks.Optional reads within =
    let s = reads_split (one (kinds.Mark points.Question)) (one (kinds.Mark points.Colon)) reads in
    took limit goals (colon ∷ next) s.first steps.optional (within_less limit _ (depth next) (omega arith) within) ∙ took limit (colon ∷ next) next s.second refl within
takes_mark limit goals next steps marks.Required reads within =
    let s = reads_split (one (kinds.Mark points.Exclamation)) (one (kinds.Mark points.Colon)) reads in
    took limit goals (colon ∷ next) s.first steps.required (within_less limit _ (depth next) (omega arith) within) ∙ took limit (colon ∷ next) next s.second refl within

-- the goal of a mark takes each mark of a label and its colon
pub plain_mark : (next : Stack) → TakesMark (mark ∷ next) next
plain_mark next = record { regular = refl; optional = refl; required = refl }

name_mark : (t : List ℕ) (below : Stack) → TakesMark (value_name t ∷ below) (value ∷ chained ∷ below)
name_mark t below = record { regular = refl; optional = refl; required = refl }

text_mark : (below : Stack) → TakesMark (value_text ∷ below) (value ∷ chained ∷ below)
text_mark below = record { regular = refl; optional = refl; required = refl }

-- a label of a chain opens a level
chains : (limit : Limit) (below : Stack) {a b : List Token} (n : LabelName) (m : Mark) → SpellsTree a (one (label_kind n) ++ (spell_mark m ++ one (kinds.Mark points.Colon))) b → Within limit (1 + depth below)
    → rest_where_stuck limit (value ∷ below) a ≡ rest_where_stuck limit (value ∷ chained ∷ below) b
chains limit below (names.Plain t) m reads within =
    let s = reads_split (one (kinds.Name t)) (spell_mark m ++ one (kinds.Mark points.Colon)) reads in
    took limit (value ∷ below) (value_name t ∷ below) s.first refl (within_less limit (levels_of (value_name t) + depth below) (1 + depth below) (omega (arith, one_level t)) within)
    ∙ takes_mark limit (value_name t ∷ below) (value ∷ chained ∷ below) (name_mark t below) m s.second (within_less limit _ (1 + depth below) (omega arith) within)
chains limit below (names.Quoted t) m reads within =
    let s = reads_split (one (kinds.Text t)) (spell_mark m ++ one (kinds.Mark points.Colon)) reads in
    took limit (value ∷ below) (value_text ∷ below) s.first refl (within_less limit _ (1 + depth below) (omega arith) within)
    ∙ takes_mark limit (value_text ∷ below) (value ∷ chained ∷ below) (text_mark below) m s.second (within_less limit _ (1 + depth below) (omega arith) within)

-- a label of a chain leaves the goal of the value after it, which is one level deeper
pub takes_chained : (limit : Limit) (below : Stack) {a b : List Token} (l : Label) → SpellsTree a (spell_label l) b → Within limit (1 + depth below)
    → rest_where_stuck limit (value ∷ below) a ≡ rest_where_stuck limit (value ∷ chained ∷ below) b
takes_chained limit below l reads within = chains limit below l.name l.mark reads within

-- the closing signs, after a comma or not
pub closes_parenthesis : (limit : Limit) (below : Stack) {a b c : List Token} (comma : Bool) → SpellsTree a (comma_if comma) b → SpellsTree b (one (kinds.Mark points.CloseParenthesis)) c → Within limit (1 + depth below)
    → rest_where_stuck limit (parenthesis ∷ below) a ≡ rest_where_stuck limit below c
closes_parenthesis limit below true first second within =
    took limit (parenthesis ∷ below) (parenthesis_end ∷ below) first refl within
    ∙ took limit (parenthesis_end ∷ below) below second refl (within_less limit _ (1 + depth below) (omega arith) within)
closes_parenthesis limit below false first second within =
    ap (rest_where_stuck limit (parenthesis ∷ below)) first.follows
    ∙ took limit (parenthesis ∷ below) below second refl (within_less limit _ (1 + depth below) (omega arith) within)

-- the bracket, with a comma before it or without, uses up the goal of a list's end
pub closes_bracket : (limit : Limit) (below : Stack) {a b c : List Token} (comma : Bool) → SpellsTree a (comma_if comma) b → SpellsTree b (one (kinds.Mark points.CloseBracket)) c → Within limit (1 + depth below)
    → rest_where_stuck limit (bracket ∷ below) a ≡ rest_where_stuck limit below c
closes_bracket limit below true first second within =
    took limit (bracket ∷ below) (bracket_end ∷ below) first refl within
    ∙ took limit (bracket_end ∷ below) below second refl (within_less limit _ (1 + depth below) (omega arith) within)
closes_bracket limit below false first second within =
    ap (rest_where_stuck limit (bracket ∷ below)) first.follows
    ∙ took limit (bracket ∷ below) below second refl (within_less limit _ (1 + depth below) (omega arith) within)

-- the bracket, with a comma before it or without, uses up the goal after `...`
pub closes_dots : (limit : Limit) (below : Stack) {a b c : List Token} (comma : Bool) → SpellsTree a (comma_if comma) b → SpellsTree b (one (kinds.Mark points.CloseBracket)) c → Within limit (1 + depth below)
    → rest_where_stuck limit (dots ∷ below) a ≡ rest_where_stuck limit below c
closes_dots limit below true first second within =
    took limit (dots ∷ below) (bracket_end ∷ below) first refl within
    ∙ took limit (bracket_end ∷ below) below second refl (within_less limit _ (1 + depth below) (omega arith) within)
closes_dots limit below false first second within =
    ap (rest_where_stuck limit (dots ∷ below)) first.follows
    ∙ took limit (dots ∷ below) below second refl (within_less limit _ (1 + depth below) (omega arith) within)
