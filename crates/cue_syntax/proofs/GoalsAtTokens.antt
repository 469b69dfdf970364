-- What the goals do with each kind of token.
use Rattle.std.proofs.Common.{◌≡◌, ◌∙◌, ◌≤◌, ◌<◌, ap, refl, subst, ℕ, List, ◌∷◌, None, Some}
use Rattle.std.specs.Prelude.{if◌then◌else◌}
use Rattle.std.proofs.lemmas.Bool.{le-leb, lt-leb}
use Rattle.cue_lex.specs.declared.token.TokenKind.{TokenKind}
use Rattle.cue_lex.specs.declared.token.TokenKind.TheVariants as kinds
use Rattle.cue_lex.specs.declared.punctuation.Punctuation.{Punctuation}
use Rattle.cue_lex.specs.declared.punctuation.Punctuation.TheVariants as points
use Rattle.cue_syntax.specs.declared.tree.Sign.{Sign}
use Rattle.cue_syntax.specs.declared.tree.Sign.TheVariants as signs
use Rattle.cue_syntax.specs.Grammar.{greatest_magnitude}
use Rattle.cue_syntax.specs.Viability.{BeginsInteger, Opens}
use Rattle.cue_syntax.specs.Inner.Viability.{IsComparison}
use Rattle.cue_syntax.specs.Recogniser.{Stack, step_stack, magnitude, signed, signed_or_text, unary, behind_close}

-- the goal of a magnitude takes nothing but an integer
pub magnitude_none : (s : Sign) (k : TokenKind) → ((n : ℕ) → k ≡ kinds.Integer n → ⊥) → (below : Stack) → step_stack (magnitude s ∷ below) k ≡ None
magnitude_none s (kinds.Integer n) lacks below = absurd (lacks n refl)
magnitude_none s _ lacks below = refl

-- the goal of a magnitude takes an integer that is in the range of its sign
pub magnitude_step : (s : Sign) (n : ℕ) (below : Stack) → n ≤ greatest_magnitude s → step_stack (magnitude s ∷ below) (kinds.Integer n) ≡ Some below
magnitude_step s n below le = ap (λ z. if z then Some below else None) (le-leb n (greatest_magnitude s) le)

-- the goal of a magnitude takes no integer that is out of the range of its sign
pub magnitude_large : (s : Sign) (n : ℕ) (below : Stack) → greatest_magnitude s < n → step_stack (magnitude s ∷ below) (kinds.Integer n) ≡ None
magnitude_large s n below large = ap (λ z. if z then Some below else None) (lt-leb n (greatest_magnitude s) large)

-- the goal of an integer takes no token with which none begins
pub signed_none : (k : TokenKind) → ¬ BeginsInteger k → (below : Stack) → step_stack (signed ∷ below) k ≡ None
signed_none (kinds.Integer n) lacks below = absurd (lacks tt)
signed_none (kinds.Mark points.Minus) lacks below = absurd (lacks tt)
signed_none (kinds.Mark points.Plus) lacks below = absurd (lacks tt)
signed_none _ lacks below = refl

-- at any token but `-` and `+` the goal of an integer does what that of a magnitude without a sign does
pub signed_magnitude : (k : TokenKind) → (k ≡ (kinds.Mark points.Minus) → ⊥) → (k ≡ (kinds.Mark points.Plus) → ⊥) → (below : Stack) → step_stack (signed ∷ below) k ≡ step_stack (magnitude signs.Absent ∷ below) k
signed_magnitude (kinds.Mark points.Minus) minus plus below = absurd (minus refl)
signed_magnitude (kinds.Mark points.Plus) minus plus below = absurd (plus refl)
signed_magnitude _ minus plus below = refl

-- at any token but a string the goal after `!=` does what that of an integer does
pub other_signed : (k : TokenKind) → ((t : List ℕ) → k ≡ kinds.Text t → ⊥) → (below : Stack) → step_stack (signed_or_text ∷ below) k ≡ step_stack (signed ∷ below) k
other_signed (kinds.Text t) lacks below = absurd (lacks t refl)
other_signed _ lacks below = refl

-- at a token with which an integer begins the goal of an operand does what that of an integer does
pub unary_signed : (k : TokenKind) → BeginsInteger k → (below : Stack) → step_stack (unary ∷ below) k ≡ step_stack (signed ∷ below) k
unary_signed (kinds.Integer n) is below = refl
unary_signed (kinds.Mark points.Minus) is below = refl
unary_signed (kinds.Mark points.Plus) is below = refl
unary_signed _ is below = absurd is

-- A mark that begins no operand.
pub mark_none : {k : TokenKind} (mark : Punctuation) → k ≡ kinds.Mark mark → ¬ Opens k → ¬ BeginsInteger (kinds.Mark mark) → ¬ IsComparison (kinds.Mark mark) → (mark ≡ points.NotEqual → ⊥)
    → (below : Stack) → step_stack (unary ∷ below) k ≡ None
mark_none mark is opens integer comparison other below =
    ap (step_stack (unary ∷ below)) is ∙ mark_alone mark (subst (λ z. ¬ Opens z) is opens) integer comparison other below
  where
    mark_alone : (m : Punctuation) → ¬ Opens (kinds.Mark m) → ¬ BeginsInteger (kinds.Mark m) → ¬ IsComparison (kinds.Mark m) → (m ≡ points.NotEqual → ⊥) → (below : Stack) → step_stack (unary ∷ below) (kinds.Mark m) ≡ None
    mark_alone points.Minus o i c e below = absurd (i tt)
    mark_alone points.Plus o i c e below = absurd (i tt)
    mark_alone points.Less o i c e below = absurd (c tt)
    mark_alone points.AtMost o i c e below = absurd (c tt)
    mark_alone points.Greater o i c e below = absurd (c tt)
    mark_alone points.AtLeast o i c e below = absurd (c tt)
    mark_alone points.NotEqual o i c e below = absurd (e refl)
    mark_alone points.OpenParenthesis o i c e below = absurd (o tt)
    mark_alone points.OpenBrace o i c e below = absurd (o tt)
    mark_alone points.OpenBracket o i c e below = absurd (o tt)
    mark_alone _ o i c e below = refl

-- at any token but an opening parenthesis the goal after `close` leaves it to the goals below
pub behind_close_pops : (k : TokenKind) → (k ≡ (kinds.Mark points.OpenParenthesis) → ⊥) → (below : Stack) → step_stack (behind_close ∷ below) k ≡ step_stack below k
behind_close_pops (kinds.Mark points.OpenParenthesis) lacks below = absurd (lacks refl)
behind_close_pops _ lacks below = refl
