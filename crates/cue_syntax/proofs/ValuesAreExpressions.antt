-- A value that is no label is an expression.
use Rattle.std.proofs.Common.{◌≡◌, ◌∙◌, ap, sym, subst, refl, ℕ, zero, suc, inl, Bool, true, false, List, [], ◌∷◌, drop, codes, arith, Some, None}
use Rattle.std.specs.Prelude.{if◌then◌else◌}
use Rattle.cue_lex.specs.declared.token.Token.{Token}
use Rattle.cue_lex.specs.declared.token.TokenKind.{TokenKind}
use Rattle.cue_lex.specs.declared.token.TokenKind.TheVariants as kinds
use Rattle.cue_lex.specs.declared.punctuation.Punctuation.TheVariants as points
use Rattle.cue_syntax.specs.declared.stop.Why.TheVariants as reasons
use Rattle.cue_syntax.specs.declared.stop.ParserStop.{ParserStop}
use Rattle.cue_syntax.specs.Stops.{at_hand}
use Rattle.cue_syntax.specs.Viability.{IsTokenAt, IsMark, IsLabelName, IsKeywordName, BeginsLabel, RefusesKeyword}
use Rattle.cue_syntax.specs.Recogniser.{Stack, step_stack, is_word, is_keyword, MovesStack, ParserStops, ParserRefusesAt, value, value_name, value_text, expression, behind_close, more_parts, more_terms}
use Rattle.cue_syntax.proofs.MovesAndStops.{takes, moves_then, moves_meet, alike_moves, Alike, moves_more, HaltsAt, stopped, stops_there, stops_owing, refused_behind}
use Rattle.cue_syntax.proofs.OpensLevels.{sticks_level}
use Rattle.cue_syntax.proofs.MovesOverLiterals.{keyword_is, keyword_no}

-- after a name
name_behind : (n : List ℕ) (k : TokenKind) → ¬ IsMark k → is_keyword n ≡ false → is_word (codes "close") n ≡ false → (below : Stack) → step_stack (value_name n ∷ below) k ≡ step_stack (more_parts ∷ more_terms ∷ below) k
name_behind n (kinds.Mark points.Colon) mark keyword close below = absurd (mark tt)
name_behind n (kinds.Mark points.Question) mark keyword close below = absurd (mark tt)
name_behind n (kinds.Mark points.Exclamation) mark keyword close below = absurd (mark tt)
name_behind n (kinds.Mark points.OpenParenthesis) mark keyword close below = rw (keyword, close) refl
name_behind n k mark keyword close below = rw keyword refl

close_behind : (n : List ℕ) (k : TokenKind) → ¬ IsMark k → is_keyword n ≡ false → is_word (codes "close") n ≡ true → (below : Stack) → step_stack (value_name n ∷ below) k ≡ step_stack (behind_close ∷ more_parts ∷ more_terms ∷ below) k
close_behind n (kinds.Mark points.Colon) mark keyword close below = absurd (mark tt)
close_behind n (kinds.Mark points.Question) mark keyword close below = absurd (mark tt)
close_behind n (kinds.Mark points.Exclamation) mark keyword close below = absurd (mark tt)
close_behind n (kinds.Mark points.OpenParenthesis) mark keyword close below = rw (keyword, close) refl
close_behind n k mark keyword close below = rw keyword refl

text_behind : (k : TokenKind) → ¬ IsMark k → (below : Stack) → step_stack (value_text ∷ below) k ≡ step_stack (more_parts ∷ more_terms ∷ below) k
text_behind (kinds.Mark points.Colon) mark below = absurd (mark tt)
text_behind (kinds.Mark points.Question) mark below = absurd (mark tt)
text_behind (kinds.Mark points.Exclamation) mark below = absurd (mark tt)
text_behind _ mark below = refl

keyword_behind : (n : List ℕ) (k : TokenKind) → ¬ IsMark k → is_keyword n ≡ true → (below : Stack) → step_stack (value_name n ∷ below) k ≡ None
keyword_behind n (kinds.Mark points.Colon) mark keyword below = absurd (mark tt)
keyword_behind n (kinds.Mark points.Question) mark keyword below = absurd (mark tt)
keyword_behind n (kinds.Mark points.Exclamation) mark keyword below = absurd (mark tt)
keyword_behind n (kinds.Mark points.OpenParenthesis) mark keyword below = rw keyword refl
keyword_behind n k mark keyword below = rw keyword refl

name_alike : (n : List ℕ) (b : List Token) → ¬ IsTokenAt IsMark b → is_keyword n ≡ false → is_word (codes "close") n ≡ false → Alike (value_name n ∷ []) (more_parts ∷ more_terms ∷ []) b
name_alike n [] mark keyword close = λ below. rw keyword refl
name_alike n (t ∷ ts) mark keyword close = λ below. name_behind n t.kind mark keyword close below

close_alike : (n : List ℕ) (b : List Token) → ¬ IsTokenAt IsMark b → is_keyword n ≡ false → is_word (codes "close") n ≡ true → Alike (value_name n ∷ []) (behind_close ∷ more_parts ∷ more_terms ∷ []) b
close_alike n [] mark keyword close = λ below. rw keyword refl
close_alike n (t ∷ ts) mark keyword close = λ below. close_behind n t.kind mark keyword close below

text_alike : (b : List Token) → ¬ IsTokenAt IsMark b → Alike (value_text ∷ []) (more_parts ∷ more_terms ∷ []) b
text_alike [] mark = λ below. refl
text_alike (t ∷ ts) mark = λ below. text_behind t.kind mark below

keyword_at : (n : List ℕ) (b : List Token) → ¬ IsTokenAt IsMark b → is_keyword n ≡ true → HaltsAt (value_name n ∷ []) b
keyword_at n [] mark keyword = λ below. rw keyword refl
keyword_at n (t ∷ ts) mark keyword = λ below closes. keyword_behind n t.kind mark keyword below

name_step : (n : List ℕ) (close : Bool) → is_keyword n ≡ false → is_word (codes "close") n ≡ close → (below : Stack)
    → step_stack (expression ∷ below) (kinds.Name n) ≡ (if close then Some (behind_close ∷ more_parts ∷ more_terms ∷ below) else Some (more_parts ∷ more_terms ∷ below))
name_step n close keyword is below = rw (keyword, is) refl

value_of_name : (t : Token) (b : List Token) (n : List ℕ) (close : Bool) → t.kind ≡ kinds.Name n → ¬ IsTokenAt IsMark b → is_keyword n ≡ false → is_word (codes "close") n ≡ close
    → MovesStack 0 (value ∷ []) (t ∷ b) (expression ∷ []) (t ∷ b)
value_of_name t b n true kind mark keyword close = moves_meet (behind_close ∷ more_parts ∷ more_terms ∷ [])
    (moves_then {h = value_name n ∷ []} (takes t refl (λ below. ap (step_stack (value ∷ below)) kind) (rw keyword (omega arith))) (alike_moves b (close_alike n b mark keyword close)))
    (takes t refl (λ below. ap (step_stack (expression ∷ below)) kind ∙ name_step n true keyword close below) (omega arith))
value_of_name t b n false kind mark keyword close = moves_meet (more_parts ∷ more_terms ∷ [])
    (moves_then {h = value_name n ∷ []} (takes t refl (λ below. ap (step_stack (value ∷ below)) kind) (rw keyword (omega arith))) (alike_moves b (name_alike n b mark keyword close)))
    (takes t refl (λ below. ap (step_stack (expression ∷ below)) kind ∙ name_step n false keyword close below) (omega arith))

value_by : (t : Token) (b : List Token) (k : TokenKind) → t.kind ≡ k → ¬ (IsLabelName k × IsTokenAt IsMark b) → ¬ IsKeywordName k → MovesStack 0 (value ∷ []) (t ∷ b) (expression ∷ []) (t ∷ b)
value_by t b (kinds.Name n) kind label keyword = value_of_name t b n (is_word (codes "close") n) kind (λ m. label (tt, m)) (keyword_no n keyword) refl
value_by t b (kinds.Text n) kind label keyword = moves_meet (more_parts ∷ more_terms ∷ [])
    (moves_then {h = value_text ∷ []} (takes t refl (λ below. ap (step_stack (value ∷ below)) kind) (omega arith)) (alike_moves b (text_alike b (λ m. label (tt, m)))))
    (takes t refl (λ below. ap (step_stack (expression ∷ below)) kind) (omega arith))
value_by t b k kind label keyword = alike_moves (t ∷ b) (λ below. ap (step_stack (value ∷ below)) kind ∙ sym (ap (step_stack (expression ∷ below)) kind))

value_is : (a : List Token) → ¬ BeginsLabel a → ¬ IsTokenAt IsKeywordName a → MovesStack 0 (value ∷ []) a (expression ∷ []) a
value_is [] label keyword = alike_moves [] (λ below. refl)
value_is (t ∷ ts) label keyword = value_by t ts t.kind refl label keyword

-- where neither a label nor a keyword begins, the goal of a value goes through an expression
pub value_moves : {n : ℕ} {a b : List Token} → ¬ BeginsLabel a → ¬ IsTokenAt IsKeywordName a → MovesStack n (expression ∷ []) a [] b → MovesStack n (value ∷ []) a [] b
value_moves {a = a} label keyword m = moves_then (moves_more (omega arith) (value_is a label keyword)) m

-- what is refused there of an expression is refused of a value
pub value_refused : {n end : ℕ} {a : List Token} {r : ParserStop} → ¬ BeginsLabel a → ¬ IsTokenAt IsKeywordName a → ParserRefusesAt n end (expression ∷ []) a r → ParserRefusesAt n end (value ∷ []) a r
value_refused {a = a} label keyword s = refused_behind (moves_more (omega arith) (value_is a label keyword)) (λ begins. inl (refl, tt)) s

-- the goal of a value halts after a keyword that is no label
keyword_by : {end : ℕ} {r : ParserStop} (n : ℕ) (t : Token) (b : List Token) (k : TokenKind) → t.kind ≡ k → ¬ (IsLabelName k × IsTokenAt IsMark b) → IsKeywordName k → r ≡ at_hand reasons.Syntax end b → ParserStops n end (value ∷ []) (t ∷ b) r
keyword_by zero t b (kinds.Name n) kind label keyword is =
    let known = keyword_is n keyword in
    stops_owing (t ∷ b) is (takes {n = 1} {next = value_name n ∷ []} t refl (λ below. ap (step_stack (value ∷ below)) kind) (rw known (omega arith))) (record { at = keyword_at n b (λ m. label (tt, m)) known })
    refl (sticks_level (value ∷ []) (value_name n ∷ []) t (λ below. ap (step_stack (value ∷ below)) kind) (rw known (omega arith))) (inl (subst IsKeywordName (sym kind) keyword))
keyword_by (suc m) t b (kinds.Name n) kind label keyword is =
    let known = keyword_is n keyword in
    stops_there {free = 1} (omega arith) is (takes {n = 1} {next = value_name n ∷ []} t refl (λ below. ap (step_stack (value ∷ below)) kind) (rw known (omega arith))) (record { at = keyword_at n b (λ m. label (tt, m)) known })
keyword_by n t b _ kind label keyword is = absurd keyword

keyword_stops : {n end : ℕ} {r : ParserStop} (a : List Token) → ¬ BeginsLabel a → IsTokenAt IsKeywordName a → r ≡ at_hand reasons.Syntax end (drop 1 a) → ParserStops n end (value ∷ []) a r
keyword_stops [] label keyword is = absurd keyword
keyword_stops {n = n} (t ∷ ts) label keyword is = keyword_by n t ts t.kind refl label keyword is

pub keyword_refused : {n end : ℕ} {a : List Token} {r : ParserStop} → ¬ BeginsLabel a → RefusesKeyword end a r → ParserRefusesAt n end (value ∷ []) a r
keyword_refused {a = a} label refuses = stopped (keyword_stops a label refuses.keyword refuses.is)
