-- How the recogniser takes one token, and where a goal lets the next token pass to those below.
use Rattle.std.proofs.Common.{◌≡◌, ◌≤◌, ◌∙◌, ap, sym, refl, subst, ℕ, true, List, [], ◌∷◌, ◌++◌, None, Some, if◌then◌else◌, le_trans, le-leb}
use Rattle.cue_lex.specs.declared.token.Token.{Token}
use Rattle.cue_lex.specs.declared.token.TokenKind.{TokenKind}
use Rattle.cue_lex.specs.declared.token.TokenKind.TheVariants as kinds
use Rattle.cue_lex.specs.declared.punctuation.Punctuation.TheVariants as points
use Rattle.cue_syntax.specs.Spelling.{SpelledPiece, SpellsTree, Follows, one, place_first}
use Rattle.cue_syntax.specs.Grammar.{Limit, unlimited, at_most, Within}
use Rattle.cue_syntax.specs.Recogniser.{Stack, step_stack, is_over, rest_where_stuck, rest_where_stuck_behind, depth, fits_limit, behind_close, more_parts, more_terms, chained}
use Rattle.cue_syntax.proofs.WhatMayFollow.{AtEnd, HeadIs, Opens, ClosesExpression, ClosesTerm, ClosesOperand, EndsExpression, EndsTerm, EndsOperand}

-- tokens that are read by two rows of pieces, split between them
pub record Split (a : List Token) (p q : List SpelledPiece) (c : List Token) : Type 0 where
  pub between : List Token
  pub first : SpellsTree a p between
  pub second : SpellsTree between q c

split : (a c : List Token) (p q : List SpelledPiece) → Follows a (p ++ q) c → Split a p q c
split a c [] q f = record { between = a; first = record { follows = refl }; second = record { follows = f } }
split [] c (x ∷ p) q f = absurd f
split (t ∷ a) c (x ∷ p) q f = let s = split a c p q f.2 in record {
  between = s.between;
  first = record { follows = (f.0, f.1, s.first.follows) };
  second = s.second;
}

-- tokens that two rows of pieces spell can be split between them
pub reads_split : {a c : List Token} (p q : List SpelledPiece) → SpellsTree a (p ++ q) c → Split a p q c
reads_split p q reads = split _ _ p q reads.follows

follows_unplaced : (a b : List Token) (p : List SpelledPiece) (from : ℕ) → Follows a (place_first from p) b → Follows a p b
follows_unplaced a b [] from follows = follows
follows_unplaced [] b (x ∷ p) from follows = follows
follows_unplaced (t ∷ a) b (x ∷ p) from follows = (follows.0, follows.1.1, follows.2)

-- what is read with a place that pieces are given is read without it
pub reads_unplaced : {a b : List Token} (from : ℕ) (p : List SpelledPiece) → SpellsTree a (place_first from p) b → SpellsTree a p b
reads_unplaced from p reads = record { follows = follows_unplaced _ _ p from reads.follows }

-- what stands before a token that is so
before : (P : TokenKind → Type 0) (a b : List Token) (p : List SpelledPiece) → Follows a p b → HeadIs P p → AtEnd P b → AtEnd P a
before P a b [] follows head end = subst (AtEnd P) (sym follows) end
before P [] b (x ∷ p) follows head end = absurd follows
before P (t ∷ a) b (x ∷ p) follows head end = subst P (sym follows.0) head

-- tokens begin so, or end, where the pieces at their front do and what comes after those does
pub at_end_before : {a b : List Token} (P : TokenKind → Type 0) (p : List SpelledPiece) → SpellsTree a p b → HeadIs P p → AtEnd P b → AtEnd P a
at_end_before P p reads head end = before P _ _ p reads.follows head end

begin : (P : TokenKind → Type 0) (a b : List Token) (p : List SpelledPiece) → Follows a p b → Opens P p → AtEnd P a
begin P a b [] follows opens = absurd opens
begin P [] b (x ∷ p) follows opens = absurd follows
begin P (t ∷ a) b (x ∷ p) follows opens = subst P (sym follows.0) opens

-- tokens begin so where the pieces at their front do
pub begins : {a b : List Token} (P : TokenKind → Type 0) (p : List SpelledPiece) → SpellsTree a p b → Opens P p → AtEnd P a
begins P p reads opens = begin P _ _ p reads.follows opens

-- a row of pieces begins so where the first of its two parts does
pub opens_append : (P : TokenKind → Type 0) (p q : List SpelledPiece) → Opens P p → Opens P (p ++ q)
opens_append P [] q opens = absurd opens
opens_append P (x ∷ p) q opens = opens

-- pieces that are given a place begin as they did
pub opens_placed : (P : TokenKind → Type 0) (from : ℕ) (p : List SpelledPiece) → Opens P p → Opens P (place_first from p)
opens_placed P from [] opens = opens
opens_placed P from (x ∷ p) opens = opens

-- the ends, from the narrowest to the widest
closes_term : (k : TokenKind) → ClosesExpression k → ClosesTerm k
closes_term (kinds.Mark points.Bar) is = tt
closes_term _ is = is

closes_operand : (k : TokenKind) → ClosesTerm k → ClosesOperand k
closes_operand (kinds.Mark points.Ampersand) is = tt
closes_operand _ is = is

-- what may follow an expression may follow a term
pub ends_term : (a : List Token) → EndsExpression a → EndsTerm a
ends_term [] end = tt
ends_term (t ∷ a) end = closes_term t.kind end

-- what may follow a term may follow an operand
pub ends_operand : (a : List Token) → EndsTerm a → EndsOperand a
ends_operand [] end = tt
ends_operand (t ∷ a) end = closes_operand t.kind end

-- limits
-- where so many levels keep within a limit, fewer do
pub within_less : (limit : Limit) (m n : ℕ) → m ≤ n → Within limit n → Within limit m
within_less unlimited m n less within = tt
within_less (at_most l) m n less within = le_trans less within

-- levels within a limit pass the test for it
pub fits_is : (limit : Limit) (n : ℕ) → Within limit n → fits_limit limit n ≡ true
fits_is unlimited n within = refl
fits_is (at_most l) n within = le-leb n l within

-- a token that the goals take
pub took_token : (limit : Limit) (goals next : Stack) (t : Token) (ts : List Token) → step_stack goals t.kind ≡ Some next → Within limit (depth next)
    → rest_where_stuck limit goals (t ∷ ts) ≡ rest_where_stuck limit next ts
took_token limit goals next t ts is within =
    ap (λ s. rest_where_stuck_behind limit s (t ∷ ts) (λ n. rest_where_stuck limit n ts)) is
    ∙ ap (λ f. if f then rest_where_stuck limit next ts else Some (t ∷ ts)) (fits_is limit (depth next) within)

took_follows : (limit : Limit) (goals next : Stack) (a b : List Token) (k : TokenKind) → Follows a (one k) b → step_stack goals k ≡ Some next → Within limit (depth next)
    → rest_where_stuck limit goals a ≡ rest_where_stuck limit next b
took_follows limit goals next [] b k follows is within = absurd follows
took_follows limit goals next (t ∷ a) b k follows is within =
    took_token limit goals next t a (ap (step_stack goals) follows.0 ∙ is) within ∙ ap (rest_where_stuck limit next) follows.2

-- goals that take a token that is read are stuck where the next ones are stuck in the rest
pub took : (limit : Limit) (goals next : Stack) {a b : List Token} {k : TokenKind} → SpellsTree a (one k) b → step_stack goals k ≡ Some next → Within limit (depth next)
    → rest_where_stuck limit goals a ≡ rest_where_stuck limit next b
took limit goals next reads is within = took_follows limit goals next _ _ _ reads.follows is within

-- goals that take the next token alike
pub same : (limit : Limit) (goals others : Stack) (P : TokenKind → Type 0) → is_over goals ≡ is_over others → ((k : TokenKind) → P k → step_stack goals k ≡ step_stack others k)
    → (rest : List Token) → AtEnd P rest → rest_where_stuck limit goals rest ≡ rest_where_stuck limit others rest
same limit goals others P over steps [] end = ap (λ o. if o then None else Some []) over
same limit goals others P over steps (t ∷ ts) end = ap (λ s. rest_where_stuck_behind limit s (t ∷ ts) (λ n. rest_where_stuck limit n ts)) (steps t.kind end)

-- goals that are over before the next token
close_step : (below : Stack) (k : TokenKind) → ClosesOperand k → step_stack (behind_close ∷ below) k ≡ step_stack below k
close_step below (kinds.Mark points.OpenParenthesis) end = absurd end
close_step below _ end = refl

-- what may follow an operand leaves the goal after `close` to those below
pub over_close : (limit : Limit) (below : Stack) (rest : List Token) → EndsOperand rest → rest_where_stuck limit (behind_close ∷ below) rest ≡ rest_where_stuck limit below rest
over_close limit below = same limit (behind_close ∷ below) below ClosesOperand refl (close_step below)

parts_step : (below : Stack) (k : TokenKind) → ClosesTerm k → step_stack (more_parts ∷ below) k ≡ step_stack below k
parts_step below (kinds.Mark points.Ampersand) end = absurd end
parts_step below _ end = refl

-- what may follow a term leaves the goal of further parts to those below
pub over_parts : (limit : Limit) (below : Stack) (rest : List Token) → EndsTerm rest → rest_where_stuck limit (more_parts ∷ below) rest ≡ rest_where_stuck limit below rest
over_parts limit below = same limit (more_parts ∷ below) below ClosesTerm refl (parts_step below)

terms_step : (below : Stack) (k : TokenKind) → ClosesExpression k → step_stack (more_terms ∷ below) k ≡ step_stack below k
terms_step below (kinds.Mark points.Bar) end = absurd end
terms_step below _ end = refl

-- what may follow an expression leaves the goal of further terms to those below
pub over_terms : (limit : Limit) (below : Stack) (rest : List Token) → EndsExpression rest → rest_where_stuck limit (more_terms ∷ below) rest ≡ rest_where_stuck limit below rest
over_terms limit below = same limit (more_terms ∷ below) below ClosesExpression refl (terms_step below)

-- the goal after a chained label leaves any token to those below
pub over_chained : (limit : Limit) (below : Stack) (rest : List Token) → rest_where_stuck limit (chained ∷ below) rest ≡ rest_where_stuck limit below rest
over_chained limit below [] = refl
over_chained limit below (t ∷ ts) = refl
