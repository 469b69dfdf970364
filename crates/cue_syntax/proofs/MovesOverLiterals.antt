-- How the recogniser goes through expressions that hold no other.
use Rattle.std.proofs.Common.{◌≡◌, ◌∙◌, ◌⊎◌, ap, sym, subst, refl, ℕ, inl, inr, Bool, true, false, List, [], ◌∷◌, codes, arith, Some, None}
use Rattle.std.specs.Prelude.{if◌then◌else◌, ◌||◌}
use Rattle.std.specs.Cmp.Lexicographic.{bytes_decides}
use Rattle.cue_lex.specs.declared.token.Token.{Token}
use Rattle.cue_lex.specs.declared.token.TokenKind.{TokenKind}
use Rattle.cue_lex.specs.declared.token.TokenKind.TheVariants as kinds
use Rattle.cue_lex.specs.declared.punctuation.Punctuation.TheVariants as points
use Rattle.cue_syntax.specs.declared.stop.Why.TheVariants as reasons
use Rattle.cue_syntax.specs.declared.stop.ParserStop.{ParserStop}
use Rattle.cue_syntax.specs.declared.tree.Comparison.{Comparison}
use Rattle.cue_syntax.specs.declared.tree.Comparison.TheVariants as comparisons
use Rattle.cue_syntax.specs.Spelling.{SpellsTree, one, comparison_kind}
use Rattle.cue_syntax.specs.Grammar.{IsKeyword}
use Rattle.cue_syntax.specs.Stops.{at_hand}
use Rattle.cue_syntax.specs.Viability.{IsTokenAt, IsSignAt, BeginsInteger, IsCallOfClose}
use Rattle.cue_syntax.specs.Recogniser.{Stack, step_stack, MovesStack, ParserRefusesAt, is_word, is_keyword, unary, signed, signed_or_text, behind_close}
use Rattle.cue_syntax.proofs.MovesAndStops.{takes, takes_read, alike_at, alike_moves, refused_behind, moves_then, Halts, HaltsAt, halts_at, stopped, stops_there}
use Rattle.cue_syntax.proofs.GoalsAtTokens.{signed_none, unary_signed, other_signed, behind_close_pops}

-- words
word_no : (w t : List ℕ) → (t ≡ w → ⊥) → (b : Bool) → is_word w t ≡ b → b ≡ false
word_no w t other true is = absurd (other ((bytes_decides t w).0 is))
word_no w t other false is = refl

-- other bytes than those of a word don't pass the test for it
pub word_other : (w t : List ℕ) → (t ≡ w → ⊥) → is_word w t ≡ false
word_other w t other = word_no w t other (is_word w t) refl

-- each keyword passes the test for keywords
pub keyword_is : (t : List ℕ) → IsKeyword t → is_keyword t ≡ true
keyword_is t (inl (inl e)) = ap is_keyword e
keyword_is t (inl (inr (inl e))) = ap is_keyword e
keyword_is t (inl (inr (inr (inl e)))) = ap is_keyword e
keyword_is t (inl (inr (inr (inr e)))) = ap is_keyword e
keyword_is t (inr (inl e)) = ap is_keyword e
keyword_is t (inr (inr e)) = ap is_keyword e

or_six : (a b c d f g : Bool) → a ≡ false → b ≡ false → c ≡ false → d ≡ false → f ≡ false → g ≡ false → (a || b || c || d || f || g) ≡ false
or_six a b c d f g p q r s t u = rw (p, q, r, s, t, u) refl

-- no other name passes the test for keywords
pub keyword_no : (t : List ℕ) → ¬ IsKeyword t → is_keyword t ≡ false
keyword_no t other = or_six _ _ _ _ _ _
    (word_other (codes "let") t (λ e. other (inl (inl e)))) (word_other (codes "for") t (λ e. other (inl (inr (inl e)))))
    (word_other (codes "if") t (λ e. other (inl (inr (inr (inl e)))))) (word_other (codes "import") t (λ e. other (inl (inr (inr (inr e))))))
    (word_other (codes "in") t (λ e. other (inr (inl e)))) (word_other (codes "package") t (λ e. other (inr (inr e))))

word_is : (w t : List ℕ) (b : Bool) → is_word w t ≡ b → (t ≡ w) ⊎ (is_word w t ≡ false)
word_is w t true is = inl ((bytes_decides t w).0 is)
word_is w t false is = inr is

-- what passes the test for keywords is one
pub keyword_of : (t : List ℕ) → is_keyword t ≡ true → IsKeyword t
keyword_of t is = elim (word_is (codes "let") t _ refl) [
  | inl e ↦ inl (inl e)
  | inr a ↦ elim (word_is (codes "for") t _ refl) [
    | inl e ↦ inl (inr (inl e))
    | inr b ↦ elim (word_is (codes "if") t _ refl) [
      | inl e ↦ inl (inr (inr (inl e)))
      | inr c ↦ elim (word_is (codes "import") t _ refl) [
        | inl e ↦ inl (inr (inr (inr e)))
        | inr d ↦ elim (word_is (codes "in") t _ refl) [
          | inl e ↦ inr (inl e)
          | inr f ↦ elim (word_is (codes "package") t _ refl) [
            | inl e ↦ inr (inr e)
            | inr g ↦ absurd (let wrong : false ≡ true = sym (or_six _ _ _ _ _ _ a b c d f g) ∙ is in cc)
          ]
        ]
      ]
    ]
  ]
]

-- names
-- the goal of an operand halts at a keyword
pub keyword_halts : {a b : List Token} {n : List ℕ} (t : Token) → a ≡ t ∷ b → t.kind ≡ kinds.Name n → is_keyword n ≡ true → Halts (unary ∷ []) a
keyword_halts {n = n} t is kind keyword = halts_at t is (λ below closes. ap (step_stack (unary ∷ below)) kind ∙ ap (λ z. if z then None else (if is_word (codes "close") n then Some (behind_close ∷ below) else Some below)) keyword)

name_step : (n : List ℕ) (close : Bool) → is_keyword n ≡ false → is_word (codes "close") n ≡ close → (below : Stack)
    → step_stack (unary ∷ below) (kinds.Name n) ≡ (if close then Some (behind_close ∷ below) else Some below)
name_step n close keyword is below =
    ap (λ z. if z then None else (if is_word (codes "close") n then Some (behind_close ∷ below) else Some below)) keyword
    ∙ ap (λ z. if z then Some (behind_close ∷ below) else Some below) is

close_pops : {a : List Token} → ¬ IsSignAt (kinds.Mark points.OpenParenthesis) a → MovesStack 0 (behind_close ∷ []) a [] a
close_pops {a = a} lacks = close_pops_at a lacks
  where
    close_pops_at : (a : List Token) → ¬ IsSignAt (kinds.Mark points.OpenParenthesis) a → MovesStack 0 (behind_close ∷ []) a [] a
    close_pops_at [] lacks = alike_moves [] (λ below. refl)
    close_pops_at (t ∷ ts) lacks = alike_moves (t ∷ ts) (λ below. behind_close_pops t.kind lacks below)

name_moves_by : {a b : List Token} {n : List ℕ} (t : Token) (close : Bool) → a ≡ t ∷ b → t.kind ≡ kinds.Name n → is_keyword n ≡ false → is_word (codes "close") n ≡ close
    → ¬ IsSignAt (kinds.Mark points.OpenParenthesis) b → MovesStack 0 (unary ∷ []) a [] b
name_moves_by {n = n} t true is kind keyword close lacks =
    moves_then (takes t is (λ below. ap (step_stack (unary ∷ below)) kind ∙ name_step n true keyword close below) (omega arith)) (close_pops lacks)
name_moves_by {n = n} t false is kind keyword close lacks = takes t is (λ below. ap (step_stack (unary ∷ below)) kind ∙ name_step n false keyword close below) (omega arith)

-- the goal of an operand goes through a name that is no keyword and has no parenthesis after it
pub name_moves : {a b : List Token} {n : List ℕ} (t : Token) → a ≡ t ∷ b → t.kind ≡ kinds.Name n → ¬ IsKeyword n → ¬ IsSignAt (kinds.Mark points.OpenParenthesis) b → MovesStack 0 (unary ∷ []) a [] b
name_moves {n = n} t is kind keyword lacks = name_moves_by t (is_word (codes "close") n) is kind (keyword_no n keyword) refl lacks

-- a call
paren_halts : (b : List Token) → IsSignAt (kinds.Mark points.OpenParenthesis) b → HaltsAt [] b
paren_halts [] stands = absurd stands
paren_halts (t ∷ ts) stands = λ below closes. ap (step_stack below) stands ∙ closes.call

-- a name with a parenthesis after it is refused there as an operand, unless that is a call of `close`
pub name_called : {room end : ℕ} {a b : List Token} {n : List ℕ} {r : ParserStop} (t : Token) → a ≡ t ∷ b → t.kind ≡ kinds.Name n → ¬ IsKeyword n → ¬ IsCallOfClose a
    → IsSignAt (kinds.Mark points.OpenParenthesis) b → r ≡ at_hand reasons.Syntax end b → ParserRefusesAt room end (unary ∷ []) a r
name_called {b = b} {n = n} t is kind keyword other stands refused =
    let close : n ≡ codes "close" → ⊥ = λ e. subst (λ z. ¬ IsCallOfClose z) is other (kind ∙ ap kinds.Name e, stands) in
    stopped (stops_there (omega arith) refused
    (takes {n = 0} {next = []} t is (λ below. ap (step_stack (unary ∷ below)) kind ∙ name_step n false (keyword_no n keyword) (word_other (codes "close") n close) below) (omega arith)) (record { at = paren_halts b stands }))

-- a hidden name with a parenthesis after it is refused there as an operand
pub hidden_called : {room end : ℕ} {a b : List Token} {n : List ℕ} {r : ParserStop} (t : Token) → a ≡ t ∷ b → t.kind ≡ kinds.Hidden n
    → IsSignAt (kinds.Mark points.OpenParenthesis) b → r ≡ at_hand reasons.Syntax end b → ParserRefusesAt room end (unary ∷ []) a r
hidden_called {b = b} t is kind stands refused = stopped (stops_there (omega arith) refused
    (takes {n = 0} {next = []} t is (λ below. ap (step_stack (unary ∷ below)) kind) (omega arith)) (record { at = paren_halts b stands }))

-- bounds
-- the goal of an operand goes through a comparison to an integer
pub comparison_moves : {a b : List Token} (k : Comparison) → SpellsTree a (one (comparison_kind k)) b → MovesStack 0 (unary ∷ []) a (signed ∷ []) b
comparison_moves comparisons.Less reads = takes_read reads (λ below. refl) (omega arith)
comparison_moves comparisons.AtMost reads = takes_read reads (λ below. refl) (omega arith)
comparison_moves comparisons.Greater reads = takes_read reads (λ below. refl) (omega arith)
comparison_moves comparisons.AtLeast reads = takes_read reads (λ below. refl) (omega arith)

signed_at : (a : List Token) → ¬ IsTokenAt BeginsInteger a → HaltsAt (signed ∷ []) a
signed_at [] lacks = λ below. refl
signed_at (t ∷ ts) lacks = λ below closes. signed_none t.kind lacks below

-- the goal of an integer halts where none begins
pub signed_halts : {a : List Token} → ¬ IsTokenAt BeginsInteger a → Halts (signed ∷ []) a
signed_halts {a = a} lacks = record { at = signed_at a lacks }

no_text : (k : TokenKind) → BeginsInteger k → (t : List ℕ) → k ≡ kinds.Text t → ⊥
no_text k is t e = subst BeginsInteger e is

-- after `!=`, where no string stands
other_at : (a : List Token) → ((t : List ℕ) → IsSignAt (kinds.Text t) a → ⊥) → MovesStack 0 (signed_or_text ∷ []) a (signed ∷ []) a
other_at [] lacks = alike_moves [] (λ below. refl)
other_at (t ∷ ts) lacks = alike_moves (t ∷ ts) (λ below. other_signed t.kind lacks below)

-- where no string stands, the goal of an integer may stand for that after `!=`
pub other_moves : {a : List Token} → ((t : List ℕ) → IsSignAt (kinds.Text t) a → ⊥) → MovesStack 0 (signed_or_text ∷ []) a (signed ∷ []) a
other_moves {a = a} lacks = other_at a lacks

-- where the first token is no string, no string stands first
pub no_text_first : {a b : List Token} (t : Token) → a ≡ t ∷ b → ((n : List ℕ) → t.kind ≡ kinds.Text n → ⊥) → (n : List ℕ) → IsSignAt (kinds.Text n) a → ⊥
no_text_first t is lacks n stands = lacks n (subst (λ z. IsSignAt (kinds.Text n) z) is stands)

-- where no token is left, no string stands first
pub no_text_none : {a : List Token} → a ≡ [] → (n : List ℕ) → IsSignAt (kinds.Text n) a → ⊥
no_text_none is n stands = subst (λ z. IsSignAt (kinds.Text n) z) is stands

-- Where an integer begins, what its sign and its digits refuse is refused.
pub integer_refused : {n end : ℕ} {r : ParserStop} (a : List Token) → IsTokenAt BeginsInteger a → ParserRefusesAt n end (signed ∷ []) a r → ParserRefusesAt n end (unary ∷ []) a r
integer_refused [] is m = absurd is
integer_refused (t ∷ ts) is m = refused_behind (alike_at t refl (λ below. unary_signed t.kind is below)) (λ none. absurd none) m
