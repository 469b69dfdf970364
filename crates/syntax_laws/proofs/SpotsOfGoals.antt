-- The spot of a symbol and the goals of the recogniser there: what is open is told by both, and the spot by the goal on top.
use Rattle.std.proofs.Common.{◌≡◌, ◌∙◌, ap, sym, subst, refl, ℕ, Bool, true, false, List, [], ◌∷◌, codes, Option, Some, None}
use Rattle.std.specs.Prelude.{⊤, nat_le, if◌then◌else◌}
use Rattle.cue_lex.specs.declared.token.TokenKind.{TokenKind}
use Rattle.cue_lex.specs.declared.token.TokenKind.TheVariants as kinds
use Rattle.cue_lex.specs.declared.punctuation.Punctuation.TheVariants as points
use Rattle.cue_syntax.specs.declared.spot.Position.{Position}
use Rattle.cue_syntax.specs.declared.spot.Position.TheVariants as spots
use Rattle.cue_syntax.specs.declared.spot.Inside.{Inside}
use Rattle.cue_syntax.specs.declared.spot.Inside.TheVariants as insides
use Rattle.cue_syntax.specs.declared.tree.Sign.{Sign}
use Rattle.cue_syntax.specs.declared.tree.Sign.TheVariants as signs
use Rattle.cue_syntax.specs.Grammar.{greatest_magnitude}
use Rattle.cue_syntax.specs.Spots.{is_close, innermost_open, open_after, spot_after, after_comma, after_parenthesis}
use Rattle.cue_syntax.specs.Forms.{IsOfLabel, IsOfOperand}
use Rattle.cue_syntax.specs.Recogniser.{Goal, Stack, is_word, is_keyword, hides_definition, step_stack, take_unary, take_term, take_expression, take_value, take_signed, take_entry, take_mark, take_behind_operand, text, package_word, package_end, entries, more_entries, mark, colon, value, value_name, value_text, chained, expression, term, unary, more_parts, bar, more_terms, signed, signed_or_text, magnitude, behind_close, closed, parenthesis, parenthesis_end, elements, more_elements, dots, bracket, bracket_end}

-- neither an operand nor a label begins there
abbrev pub Quiet : Position → Type 0
Quiet s = ¬ IsOfOperand s × ¬ IsOfLabel s

-- the spot where this goal is on top
abbrev pub SpotAt : Goal → Position → Type 0
SpotAt text s = s ≡ spots.Top
SpotAt (entries true) s = s ≡ spots.Top
SpotAt (entries false) s = s ≡ spots.Inner
SpotAt value s = s ≡ spots.Value
SpotAt expression s = s ≡ spots.Operand
SpotAt term s = s ≡ spots.Operand
SpotAt unary s = s ≡ spots.Operand
SpotAt elements s = s ≡ spots.Operand
SpotAt dots s = s ≡ spots.Operand
SpotAt behind_close s = s ≡ spots.CloseName
SpotAt (value_name t) s = s ≡ (if is_close t then spots.CloseName else spots.Other)
SpotAt _ s = Quiet s

abbrev pub SpotTop : Stack → Position → Type 0
SpotTop [] s = Quiet s
SpotTop (g ∷ gs) s = SpotAt g s

-- goals that come after an expression or a declaration
abbrev pub IsAfter : Goal → Stack → Type 0
IsAfter more_parts gs = ⊤
IsAfter more_terms gs = ⊤
IsAfter bar gs = ⊤
IsAfter parenthesis gs = ⊤
IsAfter chained gs = ⊤
IsAfter more_elements gs = ⊤
IsAfter bracket gs = ⊤
IsAfter (more_entries false) gs = ⊤
IsAfter (more_entries true) gs = gs ≡ []
IsAfter _ gs = ⊥

abbrev pub Afters : Stack → Type 0
Afters [] = ⊤
Afters (g ∷ gs) = IsAfter g gs × Afters gs

-- a value, and then what comes after it
abbrev pub BeforeValue : Stack → Type 0
BeforeValue (value ∷ gs) = Afters gs
BeforeValue _ = ⊥

-- how the goals lie upon each other
abbrev pub Shape : Stack → Type 0
Shape [] = ⊤
Shape (text ∷ gs) = gs ≡ []
Shape (package_word ∷ gs) = gs ≡ []
Shape (package_end ∷ gs) = gs ≡ []
Shape (entries true ∷ gs) = gs ≡ []
Shape (more_entries true ∷ gs) = gs ≡ []
Shape (mark ∷ gs) = BeforeValue gs
Shape (colon ∷ gs) = BeforeValue gs
Shape (g ∷ gs) = Afters gs

-- what is open at a goal, where this is open below it
abbrev pub around : Goal → List Inside → List Inside
around (entries false) o = insides.Struct ∷ o
around (more_entries false) o = insides.Struct ∷ o
around closed o = insides.Parenthesis ∷ o
around parenthesis o = insides.Parenthesis ∷ o
around parenthesis_end o = insides.Parenthesis ∷ o
around elements o = insides.List ∷ o
around more_elements o = insides.List ∷ o
around dots o = insides.Rest ∷ o
around bracket o = insides.Rest ∷ o
around bracket_end o = insides.Rest ∷ o
around _ o = o

abbrev pub opened_of : Stack → List Inside
opened_of [] = []
opened_of (g ∷ gs) = around g (opened_of gs)

-- the goals are those of a spot, where this is open
pub record Fit (goals : Stack) (opened : List Inside) (spot : Position) : Type 0 where
  pub shape : Shape goals
  pub opened_is : opened_of goals ≡ opened
  pub spot_is : SpotTop goals spot

abbrev pub FitStep : Option Stack → List Inside → Position → Type 0
FitStep None opened spot = ⊤
FitStep (Some goals) opened spot = Fit goals opened spot

quiet_name : (b : Bool) → Quiet (if b then spots.CloseName else spots.Other)
quiet_name true = (λ x. x, λ x. x)
quiet_name false = (λ x. x, λ x. x)

-- goals after an expression fit each spot where nothing begins
after_shape : (gs : Stack) → Afters gs → Shape gs
after_shape [] a = tt
after_shape (more_parts ∷ gs) a = a.1
after_shape (more_terms ∷ gs) a = a.1
after_shape (bar ∷ gs) a = a.1
after_shape (parenthesis ∷ gs) a = a.1
after_shape (chained ∷ gs) a = a.1
after_shape (more_elements ∷ gs) a = a.1
after_shape (bracket ∷ gs) a = a.1
after_shape (more_entries true ∷ gs) a = a.0
after_shape (more_entries false ∷ gs) a = a.1
after_shape (_ ∷ gs) a = absurd a.0

after_spot : (gs : Stack) (s : Position) → Afters gs → Quiet s → SpotTop gs s
after_spot [] s a quiet = quiet
after_spot (more_parts ∷ gs) s a quiet = quiet
after_spot (more_terms ∷ gs) s a quiet = quiet
after_spot (bar ∷ gs) s a quiet = quiet
after_spot (parenthesis ∷ gs) s a quiet = quiet
after_spot (chained ∷ gs) s a quiet = quiet
after_spot (more_elements ∷ gs) s a quiet = quiet
after_spot (bracket ∷ gs) s a quiet = quiet
after_spot (more_entries true ∷ gs) s a quiet = quiet
after_spot (more_entries false ∷ gs) s a quiet = quiet
after_spot (_ ∷ gs) s a quiet = absurd a.0

after_fit : (gs : Stack) (s : Position) → Afters gs → Quiet s → Fit gs (opened_of gs) s
after_fit gs s a quiet = record { shape = after_shape gs a; opened_is = refl; spot_is = after_spot gs s a quiet }

quiet_other : Quiet spots.Other
quiet_other = (λ x. x, λ x. x)

-- the declarations of the text have nothing below them
top_comma : (gs : Stack) → gs ≡ [] → after_comma (innermost_open (opened_of gs)) ≡ spots.Top
top_comma gs is = ap (λ z. after_comma (innermost_open (opened_of z))) is

afters_step : (gs : Stack) → Afters gs → (k : TokenKind) (s : Position) → FitStep (step_stack gs k) (open_after (opened_of gs) k) (spot_after (innermost_open (opened_of gs)) s k)
afters_step [] a k s = tt
afters_step (more_parts ∷ gs) a (kinds.Mark points.Ampersand) s = record { shape = (tt, a.1); opened_is = refl; spot_is = refl }
afters_step (more_parts ∷ gs) a k s = afters_step gs a.1 k s
afters_step (more_terms ∷ gs) a (kinds.Mark points.Bar) s = record { shape = (tt, a.1); opened_is = refl; spot_is = refl }
afters_step (more_terms ∷ gs) a k s = afters_step gs a.1 k s
afters_step (bar ∷ gs) a (kinds.Mark points.Bar) s = record { shape = (tt, a.1); opened_is = refl; spot_is = refl }
afters_step (bar ∷ gs) a k s = tt
afters_step (chained ∷ gs) a k s = afters_step gs a.1 k s
afters_step (parenthesis ∷ gs) a (kinds.Mark points.Comma) s = record { shape = a.1; opened_is = refl; spot_is = quiet_other }
afters_step (parenthesis ∷ gs) a (kinds.Mark points.CloseParenthesis) s = after_fit gs spots.Other a.1 quiet_other
afters_step (parenthesis ∷ gs) a k s = tt
afters_step (more_elements ∷ gs) a (kinds.Mark points.Comma) s = record { shape = a.1; opened_is = refl; spot_is = refl }
afters_step (more_elements ∷ gs) a (kinds.Mark points.CloseBracket) s = after_fit gs spots.Other a.1 quiet_other
afters_step (more_elements ∷ gs) a k s = tt
afters_step (bracket ∷ gs) a (kinds.Mark points.Comma) s = record { shape = a.1; opened_is = refl; spot_is = quiet_other }
afters_step (bracket ∷ gs) a (kinds.Mark points.CloseBracket) s = after_fit gs spots.Other a.1 quiet_other
afters_step (bracket ∷ gs) a k s = tt
afters_step (more_entries true ∷ gs) a (kinds.Mark points.Comma) s = record { shape = a.0; opened_is = refl; spot_is = top_comma gs a.0 }
afters_step (more_entries true ∷ gs) a k s = tt
afters_step (more_entries false ∷ gs) a (kinds.Mark points.Comma) s = record { shape = a.1; opened_is = refl; spot_is = refl }
afters_step (more_entries false ∷ gs) a (kinds.Mark points.CloseBrace) s = after_fit gs spots.Other a.1 quiet_other
afters_step (more_entries false ∷ gs) a k s = tt
afters_step (_ ∷ gs) a k s = absurd a.0

-- small pieces
paren_operand : (s : Position) → (s ≡ spots.CloseName → ⊥) → after_parenthesis s ≡ spots.Operand
paren_operand spots.CloseName other = absurd (other refl)
paren_operand _ other = refl

name_fit : (gs : Stack) → Afters gs → (keyword close : Bool)
    → FitStep (if keyword then None else (if close then Some (behind_close ∷ gs) else Some gs)) (opened_of gs) (if close then spots.CloseName else spots.Other)
name_fit gs a true close = tt
name_fit gs a false true = record { shape = a; opened_is = refl; spot_is = refl }
name_fit gs a false false = after_fit gs spots.Other a quiet_other

integer_fit : (gs : Stack) → Afters gs → (b : Bool) → FitStep (if b then Some gs else None) (opened_of gs) spots.Other
integer_fit gs a true = after_fit gs spots.Other a quiet_other
integer_fit gs a false = tt

unary_fit : (gs : Stack) → Afters gs → (inside : Option Inside) (s : Position) → (s ≡ spots.CloseName → ⊥) → (k : TokenKind) → FitStep (take_unary gs k) (open_after (opened_of gs) k) (spot_after inside s k)
unary_fit gs a inside s other (kinds.Name t) = name_fit gs a (is_keyword t) (is_close t)
unary_fit gs a inside s other (kinds.Definition t) = after_fit gs spots.Other a quiet_other
unary_fit gs a inside s other (kinds.Hidden t) = after_fit gs spots.Other a quiet_other
unary_fit gs a inside s other (kinds.Text t) = after_fit gs spots.Other a quiet_other
unary_fit gs a inside s other kinds.Bottom = after_fit gs spots.Other a quiet_other
unary_fit gs a inside s other (kinds.Integer n) = integer_fit gs a (nat_le n (greatest_magnitude signs.Absent))
unary_fit gs a inside s other (kinds.Mark points.Minus) = record { shape = a; opened_is = refl; spot_is = quiet_other }
unary_fit gs a inside s other (kinds.Mark points.Plus) = record { shape = a; opened_is = refl; spot_is = quiet_other }
unary_fit gs a inside s other (kinds.Mark points.Less) = record { shape = a; opened_is = refl; spot_is = (λ x. x, λ x. x) }
unary_fit gs a inside s other (kinds.Mark points.AtMost) = record { shape = a; opened_is = refl; spot_is = (λ x. x, λ x. x) }
unary_fit gs a inside s other (kinds.Mark points.Greater) = record { shape = a; opened_is = refl; spot_is = (λ x. x, λ x. x) }
unary_fit gs a inside s other (kinds.Mark points.AtLeast) = record { shape = a; opened_is = refl; spot_is = (λ x. x, λ x. x) }
unary_fit gs a inside s other (kinds.Mark points.NotEqual) = record { shape = a; opened_is = refl; spot_is = (λ x. x, λ x. x) }
unary_fit gs a inside s other (kinds.Mark points.OpenParenthesis) = record { shape = (tt, a); opened_is = refl; spot_is = paren_operand s other }
unary_fit gs a inside s other (kinds.Mark points.OpenBrace) = record { shape = a; opened_is = refl; spot_is = refl }
unary_fit gs a inside s other (kinds.Mark points.OpenBracket) = record { shape = a; opened_is = refl; spot_is = refl }
unary_fit gs a inside s other _ = tt

term_fit : (gs : Stack) → Afters gs → (inside : Option Inside) (s : Position) → (s ≡ spots.CloseName → ⊥) → (k : TokenKind) → FitStep (take_term gs k) (open_after (opened_of gs) k) (spot_after inside s k)
term_fit gs a inside s other (kinds.Mark points.Star) = record { shape = a; opened_is = refl; spot_is = refl }
term_fit gs a inside s other k = unary_fit (more_parts ∷ gs) (tt, a) inside s other k

expression_fit : (gs : Stack) → Afters gs → (inside : Option Inside) (s : Position) → (s ≡ spots.CloseName → ⊥) → (k : TokenKind) → FitStep (take_expression gs k) (open_after (opened_of gs) k) (spot_after inside s k)
expression_fit gs a inside s other (kinds.Mark points.Star) = record { shape = (tt, a); opened_is = refl; spot_is = refl }
expression_fit gs a inside s other k = unary_fit (more_parts ∷ more_terms ∷ gs) (tt, (tt, a)) inside s other k

value_fit : (gs : Stack) → Afters gs → (inside : Option Inside) (s : Position) → (s ≡ spots.CloseName → ⊥) → (k : TokenKind) → FitStep (take_value gs k) (open_after (opened_of gs) k) (spot_after inside s k)
value_fit gs a inside s other (kinds.Name t) = record { shape = a; opened_is = refl; spot_is = refl }
value_fit gs a inside s other (kinds.Text t) = record { shape = a; opened_is = refl; spot_is = quiet_other }
value_fit gs a inside s other k = expression_fit gs a inside s other k

mark_fit : (gs : Stack) → Afters gs → (inside : Option Inside) (s : Position) (k : TokenKind) → FitStep (take_mark (value ∷ gs) k) (open_after (opened_of gs) k) (spot_after inside s k)
mark_fit gs a inside s (kinds.Mark points.Colon) = record { shape = a; opened_is = refl; spot_is = refl }
mark_fit gs a inside s (kinds.Mark points.Question) = record { shape = a; opened_is = refl; spot_is = quiet_other }
mark_fit gs a inside s (kinds.Mark points.Exclamation) = record { shape = a; opened_is = refl; spot_is = quiet_other }
mark_fit gs a inside s _ = tt

colon_fit : (gs : Stack) → Afters gs → (s : Position) (k : TokenKind) → FitStep (step_stack (colon ∷ value ∷ gs) k) (open_after (opened_of gs) k) (spot_after (innermost_open (opened_of gs)) s k)
colon_fit gs a s (kinds.Mark points.Colon) = record { shape = a; opened_is = refl; spot_is = refl }
colon_fit gs a s _ = tt

behind_fit : (gs : Stack) → Afters gs → (s : Position) (k : TokenKind) → FitStep (take_behind_operand gs (step_stack gs k) k) (open_after (opened_of gs) k) (spot_after (innermost_open (opened_of gs)) s k)
behind_fit gs a s (kinds.Mark points.Ampersand) = record { shape = (tt, (tt, a)); opened_is = refl; spot_is = refl }
behind_fit gs a s (kinds.Mark points.Bar) = record { shape = (tt, a); opened_is = refl; spot_is = refl }
behind_fit gs a s k = afters_step gs a k s

signed_fit : (gs : Stack) → Afters gs → (inside : Option Inside) (s : Position) (k : TokenKind) → FitStep (take_signed gs k) (open_after (opened_of gs) k) (spot_after inside s k)
signed_fit gs a inside s (kinds.Integer n) = integer_fit gs a (nat_le n (greatest_magnitude signs.Absent))
signed_fit gs a inside s (kinds.Mark points.Minus) = record { shape = a; opened_is = refl; spot_is = quiet_other }
signed_fit gs a inside s (kinds.Mark points.Plus) = record { shape = a; opened_is = refl; spot_is = quiet_other }
signed_fit gs a inside s _ = tt

-- declarations of the text, which nothing lies below
top_fit : (s : Position) (k : TokenKind) → FitStep (take_entry true (more_entries true ∷ []) k) (open_after [] k) (spot_after None s k)
top_fit s (kinds.Mark points.Ellipsis) = record { shape = refl; opened_is = refl; spot_is = (λ x. x, λ x. x) }
top_fit s (kinds.Name t) = record { shape = (refl, tt); opened_is = refl; spot_is = quiet_name (is_close t) }
top_fit s (kinds.Text t) = record { shape = (refl, tt); opened_is = refl; spot_is = quiet_other }
top_fit s (kinds.Definition t) = record { shape = (refl, tt); opened_is = refl; spot_is = quiet_other }
top_fit s _ = tt

inner_fit : (gs : Stack) → Afters gs → (s : Position) (k : TokenKind) → FitStep (step_stack (entries false ∷ gs) k) (open_after (insides.Struct ∷ opened_of gs) k) (spot_after (Some insides.Struct) s k)
inner_fit gs a s (kinds.Mark points.CloseBrace) = after_fit gs spots.Other a quiet_other
inner_fit gs a s (kinds.Mark points.Ellipsis) = record { shape = a; opened_is = refl; spot_is = (λ x. x, λ x. x) }
inner_fit gs a s (kinds.Name t) = record { shape = (tt, a); opened_is = refl; spot_is = quiet_name (is_close t) }
inner_fit gs a s (kinds.Text t) = record { shape = (tt, a); opened_is = refl; spot_is = quiet_other }
inner_fit gs a s _ = tt

text_fit : (s : Position) (k : TokenKind) → FitStep (step_stack (text ∷ []) k) (open_after [] k) (spot_after None s k)
text_fit s (kinds.Name t) = by (is_word (codes "package") t)
  where
    by : (b : Bool) → FitStep (if b then Some (package_word ∷ []) else Some (mark ∷ value ∷ more_entries true ∷ [])) [] (if is_close t then spots.CloseName else spots.Other)
    by true = record { shape = refl; opened_is = refl; spot_is = quiet_name (is_close t) }
    by false = record { shape = (refl, tt); opened_is = refl; spot_is = quiet_name (is_close t) }
text_fit s k = top_fit s k

package_fit : (s : Position) (k : TokenKind) → FitStep (step_stack (package_word ∷ []) k) (open_after [] k) (spot_after None s k)
package_fit s (kinds.Name t) = record { shape = refl; opened_is = refl; spot_is = quiet_name (is_close t) }
package_fit s (kinds.Hidden t) = by (hides_definition t)
  where
    by : (b : Bool) → FitStep (if b then None else Some (package_end ∷ [])) [] spots.Other
    by true = tt
    by false = record { shape = refl; opened_is = refl; spot_is = quiet_other }
package_fit s k = mark_fit (more_entries true ∷ []) (refl, tt) None s k

package_end_fit : (s : Position) (k : TokenKind) → FitStep (step_stack (package_end ∷ []) k) (open_after [] k) (spot_after None s k)
package_end_fit s (kinds.Mark points.Comma) = record { shape = refl; opened_is = refl; spot_is = refl }
package_end_fit s _ = tt

call_fit : (gs : Stack) → Afters gs → (s : Position) (keyword close : Bool) → s ≡ (if close then spots.CloseName else spots.Other)
    → FitStep (if keyword then None else (if close then Some (closed ∷ more_parts ∷ more_terms ∷ gs) else step_stack gs (kinds.Mark points.OpenParenthesis))) (insides.Parenthesis ∷ opened_of gs) (after_parenthesis s)
call_fit gs a s true close is = tt
call_fit gs a s false true is = record { shape = (tt, (tt, a)); opened_is = refl; spot_is = subst (λ z. Quiet (after_parenthesis z)) (sym is) (λ x. x, λ x. x) }
call_fit gs a s false false is = afters_step gs a (kinds.Mark points.OpenParenthesis) s

unless_keyword : (o : Option Stack) (opened : List Inside) (s : Position) (keyword : Bool) → FitStep o opened s → FitStep (if keyword then None else o) opened s
unless_keyword o opened s true fit = tt
unless_keyword o opened s false fit = fit

value_name_fit : (t : List ℕ) (gs : Stack) → Afters gs → (s : Position) → s ≡ (if is_close t then spots.CloseName else spots.Other) → (k : TokenKind)
    → FitStep (step_stack (value_name t ∷ gs) k) (open_after (opened_of gs) k) (spot_after (innermost_open (opened_of gs)) s k)
value_name_fit t gs a s is (kinds.Mark points.Colon) = mark_fit (chained ∷ gs) (tt, a) (innermost_open (opened_of gs)) s (kinds.Mark points.Colon)
value_name_fit t gs a s is (kinds.Mark points.Question) = mark_fit (chained ∷ gs) (tt, a) (innermost_open (opened_of gs)) s (kinds.Mark points.Question)
value_name_fit t gs a s is (kinds.Mark points.Exclamation) = mark_fit (chained ∷ gs) (tt, a) (innermost_open (opened_of gs)) s (kinds.Mark points.Exclamation)
value_name_fit t gs a s is (kinds.Mark points.OpenParenthesis) = call_fit gs a s (is_keyword t) (is_close t) is
value_name_fit t gs a s is k = unless_keyword (take_behind_operand gs (step_stack gs k) k) (open_after (opened_of gs) k) (spot_after (innermost_open (opened_of gs)) s k) (is_keyword t) (behind_fit gs a s k)

value_text_fit : (gs : Stack) → Afters gs → (s : Position) (k : TokenKind) → FitStep (step_stack (value_text ∷ gs) k) (open_after (opened_of gs) k) (spot_after (innermost_open (opened_of gs)) s k)
value_text_fit gs a s (kinds.Mark points.Colon) = mark_fit (chained ∷ gs) (tt, a) (innermost_open (opened_of gs)) s (kinds.Mark points.Colon)
value_text_fit gs a s (kinds.Mark points.Question) = mark_fit (chained ∷ gs) (tt, a) (innermost_open (opened_of gs)) s (kinds.Mark points.Question)
value_text_fit gs a s (kinds.Mark points.Exclamation) = mark_fit (chained ∷ gs) (tt, a) (innermost_open (opened_of gs)) s (kinds.Mark points.Exclamation)
value_text_fit gs a s k = behind_fit gs a s k

behind_close_fit : (gs : Stack) → Afters gs → (s : Position) → s ≡ spots.CloseName → (k : TokenKind) → FitStep (step_stack (behind_close ∷ gs) k) (open_after (opened_of gs) k) (spot_after (innermost_open (opened_of gs)) s k)
behind_close_fit gs a s is (kinds.Mark points.OpenParenthesis) = record { shape = a; opened_is = refl; spot_is = subst (λ z. Quiet (after_parenthesis z)) (sym is) (λ x. x, λ x. x) }
behind_close_fit gs a s is k = afters_step gs a k s

text_or_signed_fit : (gs : Stack) → Afters gs → (inside : Option Inside) (s : Position) (k : TokenKind) → FitStep (step_stack (signed_or_text ∷ gs) k) (open_after (opened_of gs) k) (spot_after inside s k)
text_or_signed_fit gs a inside s (kinds.Text t) = after_fit gs spots.Other a quiet_other
text_or_signed_fit gs a inside s k = signed_fit gs a inside s k

magnitude_fit : (sign : Sign) (gs : Stack) → Afters gs → (inside : Option Inside) (s : Position) (k : TokenKind) → FitStep (step_stack (magnitude sign ∷ gs) k) (open_after (opened_of gs) k) (spot_after inside s k)
magnitude_fit sign gs a inside s (kinds.Integer n) = integer_fit gs a (nat_le n (greatest_magnitude sign))
magnitude_fit sign gs a inside s _ = tt

closed_fit : (gs : Stack) → Afters gs → (inside : Option Inside) (s : Position) (k : TokenKind) → FitStep (step_stack (closed ∷ gs) k) (open_after (insides.Parenthesis ∷ opened_of gs) k) (spot_after inside s k)
closed_fit gs a inside s (kinds.Mark points.OpenBrace) = record { shape = (tt, a); opened_is = refl; spot_is = refl }
closed_fit gs a inside s _ = tt

parenthesis_end_fit : (gs : Stack) → Afters gs → (inside : Option Inside) (s : Position) (k : TokenKind) → FitStep (step_stack (parenthesis_end ∷ gs) k) (open_after (insides.Parenthesis ∷ opened_of gs) k) (spot_after inside s k)
parenthesis_end_fit gs a inside s (kinds.Mark points.CloseParenthesis) = after_fit gs spots.Other a quiet_other
parenthesis_end_fit gs a inside s _ = tt

dots_fit : (gs : Stack) → Afters gs → (s : Position) → (s ≡ spots.CloseName → ⊥) → (k : TokenKind) → FitStep (step_stack (dots ∷ gs) k) (open_after (insides.Rest ∷ opened_of gs) k) (spot_after (Some insides.Rest) s k)
dots_fit gs a s other (kinds.Mark points.Comma) = record { shape = a; opened_is = refl; spot_is = quiet_other }
dots_fit gs a s other (kinds.Mark points.CloseBracket) = after_fit gs spots.Other a quiet_other
dots_fit gs a s other k = expression_fit (bracket ∷ gs) (tt, a) (Some insides.Rest) s other k

bracket_end_fit : (gs : Stack) → Afters gs → (s : Position) (k : TokenKind) → FitStep (step_stack (bracket_end ∷ gs) k) (open_after (insides.Rest ∷ opened_of gs) k) (spot_after (Some insides.Rest) s k)
bracket_end_fit gs a s (kinds.Mark points.CloseBracket) = after_fit gs spots.Other a quiet_other
bracket_end_fit gs a s _ = tt

elements_fit : (gs : Stack) → Afters gs → (s : Position) → (s ≡ spots.CloseName → ⊥) → (k : TokenKind) → FitStep (step_stack (elements ∷ gs) k) (open_after (insides.List ∷ opened_of gs) k) (spot_after (Some insides.List) s k)
elements_fit gs a s other (kinds.Mark points.CloseBracket) = after_fit gs spots.Other a quiet_other
elements_fit gs a s other (kinds.Mark points.Ellipsis) = record { shape = a; opened_is = refl; spot_is = refl }
elements_fit gs a s other k = expression_fit (more_elements ∷ gs) (tt, a) (Some insides.List) s other k

value_other : (s : Position) → s ≡ spots.Value → s ≡ spots.CloseName → ⊥
value_other s is e = let f : spots.Value ≡ spots.CloseName = sym is ∙ e in cc

operand_other : (s : Position) → s ≡ spots.Operand → s ≡ spots.CloseName → ⊥
operand_other s is e = let f : spots.Operand ≡ spots.CloseName = sym is ∙ e in cc

alone : (P : Stack → Type 0) (gs : Stack) → gs ≡ [] → P [] → P gs
alone P gs is p = subst P (sym is) p

-- a step of goals that fit leads to goals that fit
step_fit : (goals : Stack) (s : Position) → Shape goals → SpotTop goals s → (k : TokenKind) → FitStep (step_stack goals k) (open_after (opened_of goals) k) (spot_after (innermost_open (opened_of goals)) s k)
step_fit [] s shape spot k = tt
step_fit (text ∷ gs) s shape spot k = alone (λ z. FitStep (step_stack (text ∷ z) k) (open_after (opened_of z) k) (spot_after (innermost_open (opened_of z)) s k)) gs shape (text_fit s k)
step_fit (package_word ∷ gs) s shape spot k = alone (λ z. FitStep (step_stack (package_word ∷ z) k) (open_after (opened_of z) k) (spot_after (innermost_open (opened_of z)) s k)) gs shape (package_fit s k)
step_fit (package_end ∷ gs) s shape spot k = alone (λ z. FitStep (step_stack (package_end ∷ z) k) (open_after (opened_of z) k) (spot_after (innermost_open (opened_of z)) s k)) gs shape (package_end_fit s k)
step_fit (entries true ∷ gs) s shape spot k = alone (λ z. FitStep (step_stack (entries true ∷ z) k) (open_after (opened_of z) k) (spot_after (innermost_open (opened_of z)) s k)) gs shape (top_fit s k)
step_fit (entries false ∷ gs) s shape spot k = inner_fit gs shape s k
step_fit (more_entries true ∷ gs) s shape spot k = alone (λ z. FitStep (step_stack (more_entries true ∷ z) k) (open_after (opened_of z) k) (spot_after (innermost_open (opened_of z)) s k)) gs shape (afters_step (more_entries true ∷ []) (refl, tt) k s)
step_fit (more_entries false ∷ gs) s shape spot k = afters_step (more_entries false ∷ gs) (tt, shape) k s
step_fit (mark ∷ value ∷ gs) s shape spot k = mark_fit gs shape (innermost_open (opened_of gs)) s k
step_fit (mark ∷ _) s shape spot k = absurd shape
step_fit (colon ∷ value ∷ gs) s shape spot k = colon_fit gs shape s k
step_fit (colon ∷ _) s shape spot k = absurd shape
step_fit (value ∷ gs) s shape spot k = value_fit gs shape (innermost_open (opened_of gs)) s (value_other s spot) k
step_fit (value_name t ∷ gs) s shape spot k = value_name_fit t gs shape s spot k
step_fit (value_text ∷ gs) s shape spot k = value_text_fit gs shape s k
step_fit (chained ∷ gs) s shape spot k = afters_step (chained ∷ gs) (tt, shape) k s
step_fit (expression ∷ gs) s shape spot k = expression_fit gs shape (innermost_open (opened_of gs)) s (operand_other s spot) k
step_fit (term ∷ gs) s shape spot k = term_fit gs shape (innermost_open (opened_of gs)) s (operand_other s spot) k
step_fit (unary ∷ gs) s shape spot k = unary_fit gs shape (innermost_open (opened_of gs)) s (operand_other s spot) k
step_fit (more_parts ∷ gs) s shape spot k = afters_step (more_parts ∷ gs) (tt, shape) k s
step_fit (bar ∷ gs) s shape spot k = afters_step (bar ∷ gs) (tt, shape) k s
step_fit (more_terms ∷ gs) s shape spot k = afters_step (more_terms ∷ gs) (tt, shape) k s
step_fit (signed ∷ gs) s shape spot k = signed_fit gs shape (innermost_open (opened_of gs)) s k
step_fit (signed_or_text ∷ gs) s shape spot k = text_or_signed_fit gs shape (innermost_open (opened_of gs)) s k
step_fit (magnitude sign ∷ gs) s shape spot k = magnitude_fit sign gs shape (innermost_open (opened_of gs)) s k
step_fit (behind_close ∷ gs) s shape spot k = behind_close_fit gs shape s spot k
step_fit (closed ∷ gs) s shape spot k = closed_fit gs shape (Some insides.Parenthesis) s k
step_fit (parenthesis ∷ gs) s shape spot k = afters_step (parenthesis ∷ gs) (tt, shape) k s
step_fit (parenthesis_end ∷ gs) s shape spot k = parenthesis_end_fit gs shape (Some insides.Parenthesis) s k
step_fit (elements ∷ gs) s shape spot k = elements_fit gs shape s (operand_other s spot) k
step_fit (more_elements ∷ gs) s shape spot k = afters_step (more_elements ∷ gs) (tt, shape) k s
step_fit (dots ∷ gs) s shape spot k = dots_fit gs shape s (operand_other s spot) k
step_fit (bracket ∷ gs) s shape spot k = afters_step (bracket ∷ gs) (tt, shape) k s
step_fit (bracket_end ∷ gs) s shape spot k = bracket_end_fit gs shape s k

pub next_fit : (goals next : Stack) (s : Position) (k : TokenKind) → Shape goals → SpotTop goals s → step_stack goals k ≡ Some next → Fit next (open_after (opened_of goals) k) (spot_after (innermost_open (opened_of goals)) s k)
next_fit goals next s k shape spot is = subst (λ o. FitStep o (open_after (opened_of goals) k) (spot_after (innermost_open (opened_of goals)) s k)) is (step_fit goals s shape spot k)
