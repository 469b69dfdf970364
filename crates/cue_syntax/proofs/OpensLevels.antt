-- Where a symbol opens a level too many, and how an operand is known to begin at a place.
use Rattle.std.proofs.Common.{◌≡◌, ◌∙◌, ap, sym, subst, refl, ℕ, ◌+◌, ◌≤◌, ◌<◌, ◌⊎◌, inl, inr, Bool, true, false, List, [], ◌∷◌, ◌++◌, drop, flat_map, arith, Some}
use Rattle.std.specs.Prelude.{if◌then◌else◌}
use Rattle.std.proofs.lemmas.Bool.{lt-leb}
use Rattle.cue_lex.specs.declared.token.Token.{Token}
use Rattle.cue_lex.specs.declared.token.TokenKind.{TokenKind}
use Rattle.cue_lex.specs.declared.token.TokenKind.TheVariants as kinds
use Rattle.cue_lex.specs.declared.punctuation.Punctuation.{Punctuation}
use Rattle.cue_lex.specs.declared.punctuation.Punctuation.TheVariants as points
use Rattle.cue_syntax.specs.declared.stop.Why.TheVariants as reasons
use Rattle.cue_syntax.specs.declared.stop.ParserStop.{ParserStop}
use Rattle.cue_syntax.specs.declared.tree.Label.{Label}
use Rattle.cue_syntax.specs.Grammar.{at_most}
use Rattle.cue_syntax.specs.Spelling.{SpellsTree, SpelledPiece, one, comma_if, label_kind, spell_label, spell_mark}
use Rattle.cue_syntax.specs.Stops.{at_hand}
use Rattle.cue_syntax.specs.Viability.{IsTokenAt, IsSignAt, IsMark}
use Rattle.cue_syntax.specs.Recogniser.{Stack, depth, step_stack, rest_where_stuck, rest_where_stuck_behind, value, IsGoalEnd, StopsBefore, ReadsUpTo, FollowsMark, IsOperandHere, OpensAlone, OpensItself, ParserStops}
use Rattle.cue_syntax.proofs.MovesAndStops.{end_self, end_next, end_then, depth_append, takes, follows_behind}
use Rattle.cue_syntax.proofs.TakesOneToken.{reads_split}

-- a token whose level has no room
pub sticks_level : {l : ℕ} {b : List Token} (g next : Stack) (t : Token) → ((below : Stack) → step_stack (g ++ below) t.kind ≡ Some (next ++ below)) → l < depth next → StopsBefore (at_most l) g (t ∷ b) (t ∷ b)
sticks_level {l = l} {b = b} g next t taken more = λ below closes.
    ap (λ z. rest_where_stuck_behind (at_most (depth below + l)) z (t ∷ b) (λ h. rest_where_stuck (at_most (depth below + l)) h b)) (taken below)
    ∙ ap (λ z. if z then rest_where_stuck (at_most (depth below + l)) (next ++ below) b else Some (t ∷ b))
    (lt-leb (depth (next ++ below)) (depth below + l) (omega (arith, more, depth_append next below)))

-- a sign whose level has no room
pub sticks_sign : {l : ℕ} (g : Stack) (a : List Token) (k : TokenKind) (next : Stack) → IsSignAt k a → ((below : Stack) → step_stack (g ++ below) k ≡ Some (next ++ below)) → l < depth next → StopsBefore (at_most l) g a a
sticks_sign g [] k next stands taken more = absurd stands
sticks_sign g (t ∷ ts) k next stands taken more = sticks_level g next t (λ below. ap (step_stack (g ++ below)) stands ∙ taken below) more

-- a sign whose level has room
pub goes_sign : {l : ℕ} {g : Stack} (a : List Token) (k : TokenKind) (next : Stack) → IsSignAt k a → ((below : Stack) → step_stack (g ++ below) k ≡ Some (next ++ below)) → depth next ≤ l → ReadsUpTo l g a (drop 1 a)
goes_sign [] k next stands taken le = absurd stands
goes_sign {g = g} (t ∷ ts) k next stands taken le = record { next = next; moves = takes t refl (λ below. ap (step_stack (g ++ below)) stands ∙ taken below) le }

-- what is so of a sign is so of the first token where it stands
pub sign_stands : (P : TokenKind → Type 0) (a : List Token) (k : TokenKind) → IsSignAt k a → P k → IsTokenAt P a
sign_stands P [] k stands is = absurd stands
sign_stands P (t ∷ ts) k stands is = subst P (sym stands) is

-- what is not so of a sign is not so of the first token where it stands
pub sign_no : (P : TokenKind → Type 0) (a : List Token) (k : TokenKind) → IsSignAt k a → ¬ P k → ¬ IsTokenAt P a
sign_no P [] k stands other = λ is. is
sign_no P (t ∷ ts) k stands other = λ is. other (subst P stands is)

-- each mark of a label opens a level by itself
pub mark_alone : (k : TokenKind) → IsMark k → OpensAlone k
mark_alone (kinds.Mark points.Colon) is = tt
mark_alone (kinds.Mark points.Question) is = tt
mark_alone (kinds.Mark points.Exclamation) is = tt
mark_alone _ is = absurd is

-- goals stop for nesting at a sign that opens a level with no room for it, and is no mark of a label
pub opens_sign : {n end : ℕ} {g : Stack} {a : List Token} {r : ParserStop} (k : TokenKind) (next : Stack) → IsSignAt k a → ¬ IsMark k → ((below : Stack) → step_stack (g ++ below) k ≡ Some (next ++ below)) → n < depth next → depth next ≤ 2 + n
    → OpensItself n g a a → r ≡ at_hand reasons.Nesting end a → ParserStops n end g a r
opens_sign {n = n} {end = end} {g = g} {a = a} k next stands other taken more le opens is = subst (λ z. ParserStops n end g a z) (sym is) (record {
  at = a;
  inside = end_self;
  left = refl;
  by = record { here = a; within = inl (sticks_sign g a k next stands taken more); goes_on = goes_sign a k next stands taken le; opens = opens; near = inl (refl, sign_no IsMark a k stands other) };
})

-- marks that stand before a place
-- what is read is left behind
pub end_read : {a b : List Token} (piece : SpelledPiece) → SpellsTree a (piece ∷ []) b → IsGoalEnd a b
end_read {a = []} piece reads = absurd reads.follows
end_read {a = t ∷ ts} piece reads = end_next t (ap (λ z. t ∷ z) reads.follows.2)

-- after pieces the last of which is a mark, a mark stands before what is left
pub follows_last : {a b : List Token} (pieces : List SpelledPiece) (mark : Punctuation) → SpellsTree a (pieces ++ one (kinds.Mark mark)) b → FollowsMark a b
follows_last {a = []} [] mark reads = absurd reads.follows
follows_last {a = []} (piece ∷ pieces) mark reads = absurd reads.follows
follows_last {a = t ∷ ts} [] mark reads = record { token = t; mark = mark; kind = reads.follows.0; inside = record { read = []; is = ap (λ z. t ∷ z) reads.follows.2 } }
follows_last {a = t ∷ ts} (piece ∷ pieces) mark reads = follows_behind (end_next t refl) (follows_last pieces mark (record { follows = reads.follows.2 }))

-- after a mark
pub follows_mark : {a b : List Token} (mark : Punctuation) → SpellsTree a (one (kinds.Mark mark)) b → FollowsMark a b
follows_mark mark reads = follows_last [] mark reads

-- after a comma that was read
pub follows_comma : {a b : List Token} (comma : Bool) → comma ≡ true → SpellsTree a (comma_if comma) b → FollowsMark a b
follows_comma true is reads = follows_mark points.Comma reads
follows_comma false is reads = absurd (let e : false ≡ true = is in cc)

-- after a label
pub follows_label : {a b : List Token} (l : Label) → SpellsTree a (spell_label l) b → FollowsMark a b
follows_label l reads = follows_last (one (label_kind l.name) ++ spell_mark l.mark) points.Colon reads

-- after labels a mark stands before what is left, unless there are none
pub follows_labels : (ls : List Label) {a b : List Token} → SpellsTree a (flat_map spell_label ls) b → (a ≡ b) ⊎ FollowsMark a b
follows_labels [] reads = inl reads.follows
follows_labels (l ∷ ls) {a = a} reads =
    let s = reads_split (spell_label l) (flat_map spell_label ls) reads in
    let f = follows_label l s.first in
    elim (follows_labels ls s.second) [
      | inl e ↦ inr (subst (λ z. FollowsMark a z) e f)
      | inr later ↦ inr (follows_behind (end_then f.inside (end_next f.token refl)) later)
    ]

-- after the labels of a chain the goal of a value is known to begin an operand
pub labels_lead : {a b : List Token} (ls : List Label) → SpellsTree a (flat_map spell_label ls) b → IsOperandHere (value ∷ []) a b
labels_lead ls reads = elim (follows_labels ls reads) [ inl e ↦ inl (e, tt) | inr f ↦ inr f ]
