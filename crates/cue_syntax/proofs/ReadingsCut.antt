-- How readings are cut, and what stands where a cut is.
use Rattle.std.proofs.Common.{◌≡◌, ◌∙◌, ap, sym, subst, refl, ℕ, Bool, true, false, ◌&&◌, List, [], ◌∷◌, ◌++◌}
use Rattle.cue_lex.specs.declared.token.Token.{Token}
use Rattle.cue_lex.specs.declared.token.TokenKind.{TokenKind}
use Rattle.cue_lex.specs.declared.token.TokenKind.TheVariants as kinds
use Rattle.cue_lex.specs.declared.punctuation.Punctuation.TheVariants as points
use Rattle.cue_syntax.specs.Spelling.{SpelledPiece, SpellsTree, Follows, one, one_at, place_first, comma_if}
use Rattle.cue_syntax.proofs.PartsByTheirTokens.{is_open, is_mark, is_and, is_or, is_comma, is_entry, first, behind, place, look, look_at, begins, goes_on_elements, goes_on_entries, behind_if, behind_comma}

-- where the tokens of one row of pieces end and those of another begin
pub record Cut (a : List Token) (p q : List SpelledPiece) (c : List Token) : Type 0 where
  pub middle : List Token
  pub left : SpellsTree a p middle
  pub right : SpellsTree middle q c

cut_follows : (a c : List Token) (p q : List SpelledPiece) → Follows a (p ++ q) c → (b : List Token) × Follows a p b × Follows b q c
cut_follows a c [] q h = (a, refl, h)
cut_follows [] c (x ∷ p) q h = absurd h
cut_follows (t ∷ a) c (x ∷ p) q h = let s = cut_follows a c p q h.2 in (s.0, (h.0, h.1, s.1), s.2)

-- tokens that two rows of pieces spell can be cut between them
pub cut : {a c : List Token} (p q : List SpelledPiece) → SpellsTree a (p ++ q) c → Cut a p q c
cut p q h =
    let s = cut_follows _ _ p q h.follows in
    record { middle = s.0; left = record { follows = s.1 }; right = record { follows = s.2 } }

-- the first token
pub record Head (a : List Token) (kind : TokenKind) (rest : List Token) : Type 0 where
  pub token : Token
  pub is : a ≡ token ∷ rest
  pub kind_is : token.kind ≡ kind

-- and the pieces after it
pub record Headed (a : List Token) (kind : TokenKind) (q : List SpelledPiece) (c : List Token) : Type 0 where
  pub middle : List Token
  pub head : Head a kind middle
  pub right : SpellsTree middle q c

head_of : (a c : List Token) (kind : TokenKind) (q : List SpelledPiece) → Follows a (one kind ++ q) c → Headed a kind q c
head_of [] c kind q h = absurd h
head_of (t ∷ a) c kind q h = record { middle = a; head = record { token = t; is = refl; kind_is = h.0 }; right = record { follows = h.2 } }

-- tokens that a piece and others spell begin with a token of its kind
pub headed : {a c : List Token} (kind : TokenKind) (q : List SpelledPiece) → SpellsTree a (one kind ++ q) c → Headed a kind q c
headed kind q h = head_of _ _ kind q h.follows

-- tokens that one piece spells are one token of its kind
pub lone : {a c : List Token} (kind : TokenKind) → SpellsTree a (one kind) c → Head a kind c
lone {a = a} {c = c} kind h = let t = headed kind [] h in subst (λ (z : List Token). Head a kind z) t.right.follows t.head

place_follows : (a c : List Token) (from : ℕ) (kind : TokenKind) (q : List SpelledPiece) → Follows a (one_at from kind ++ q) c → place a ≡ from
place_follows [] c from kind q h = absurd h
place_follows (t ∷ a) c from kind q h = h.1.0

unplaced_follows : (a c : List Token) (from : ℕ) (kind : TokenKind) (q : List SpelledPiece) → Follows a (one_at from kind ++ q) c → Follows a (one kind ++ q) c
unplaced_follows [] c from kind q h = absurd h
unplaced_follows (t ∷ a) c from kind q h = (h.0, tt, h.2)

-- the first token stands at the place that the first piece keeps
pub place_is : {a c : List Token} (from : ℕ) (kind : TokenKind) (q : List SpelledPiece) → SpellsTree a (one_at from kind ++ q) c → place a ≡ from
place_is from kind q h = place_follows _ _ from kind q h.follows

-- what is read with the place of the first piece is read without it
pub unplaced : {a c : List Token} (from : ℕ) (kind : TokenKind) (q : List SpelledPiece) → SpellsTree a (one_at from kind ++ q) c → SpellsTree a (one kind ++ q) c
unplaced from kind q h = record { follows = unplaced_follows _ _ from kind q h.follows }

-- the place of a term
placed_follows : (a c : List Token) (from : ℕ) (p : List SpelledPiece) → (p ≡ [] → ⊥) → Follows a (place_first from p) c → (place a ≡ from) × Follows a p c
placed_follows a c from [] some h = absurd (some refl)
placed_follows [] c from (x ∷ p) some h = absurd h
placed_follows (t ∷ a) c from (x ∷ p) some h = (h.1.0, (h.0, h.1.1, h.2))

-- the first token stands at the place that pieces are given
pub placed_place : {a c : List Token} (from : ℕ) (p : List SpelledPiece) → (p ≡ [] → ⊥) → SpellsTree a (place_first from p) c → place a ≡ from
placed_place from p some h = (placed_follows _ _ from p some h.follows).0

-- what is read with a place that pieces are given is read without it
pub placed_reads : {a c : List Token} (from : ℕ) (p : List SpelledPiece) → (p ≡ [] → ⊥) → SpellsTree a (place_first from p) c → SpellsTree a p c
placed_reads from p some h = record { follows = (placed_follows _ _ from p some h.follows).1 }

-- what is seen of the first token
pub head_first : {a c : List Token} {kind : TokenKind} (test : TokenKind → Bool) → Head a kind c → first test a ≡ test kind
head_first test h = ap (first test) h.is ∙ ap test h.kind_is

-- the tokens behind a first token that is known are the rest
pub head_behind : {a c : List Token} {kind : TokenKind} → Head a kind c → behind a ≡ c
head_behind h = ap behind h.is

-- what tokens begin with is told by the kind of the first one and by whether a mark stands after it
pub head_look : {a c : List Token} {kind : TokenKind} → Head a kind c → look a ≡ look_at kind (first is_mark c)
head_look {c = c} h = ap look h.is ∙ ap (λ (k : TokenKind). look_at k (first is_mark c)) h.kind_is

-- what may follow an operand or a bound, a part of a disjunction, and an expression
pub record EndsUnary (b : List Token) : Type 0 where
  pub no_open : first is_open b ≡ false
  pub no_mark : first is_mark b ≡ false

-- what may follow an operand or a bound, but no `&`
pub record EndsConjunct (b : List Token) : Type 0 where
  pub no_and : first is_and b ≡ false
  pub unary : EndsUnary b

-- what may follow a part of a disjunction, but no `|`
pub record EndsExpression (b : List Token) : Type 0 where
  pub no_or : first is_or b ≡ false
  pub conjunct : EndsConjunct b

-- a token that neither opens a parenthesis nor is the mark of a label may follow an operand or a bound
pub unary_ends : {b c : List Token} {kind : TokenKind} → Head b kind c → is_open kind ≡ false → is_mark kind ≡ false → EndsUnary b
unary_ends h bracket mark = record { no_open = head_first is_open h ∙ bracket; no_mark = head_first is_mark h ∙ mark }

-- a token that is no `&` either may follow a part of a disjunction
pub conjunct_ends : {b c : List Token} {kind : TokenKind} → Head b kind c → is_open kind ≡ false → is_mark kind ≡ false → is_and kind ≡ false
    → EndsConjunct b
conjunct_ends h bracket mark and = record { no_and = head_first is_and h ∙ and; unary = unary_ends h bracket mark }

-- a kind that may follow an expression
pub record IsEnd (kind : TokenKind) : Type 0 where
  pub no_open : is_open kind ≡ false
  pub no_mark : is_mark kind ≡ false
  pub no_and : is_and kind ≡ false
  pub no_or : is_or kind ≡ false

-- a token of a kind that may follow an expression may follow one
pub ends : {b c : List Token} {kind : TokenKind} → Head b kind c → IsEnd kind → EndsExpression b
ends h k = record { no_or = head_first is_or h ∙ k.no_or; conjunct = conjunct_ends h k.no_open k.no_mark k.no_and }

-- the end of the tokens may follow an expression
pub ends_text : EndsExpression []
ends_text = record { no_or = refl; conjunct = record { no_and = refl; unary = record { no_open = refl; no_mark = refl } } }

-- a comma may follow an expression
pub comma_end : IsEnd (kinds.Mark points.Comma)
comma_end = record { no_open = refl; no_mark = refl; no_and = refl; no_or = refl }

-- a comma or none, and then what comes
pub behind_no_comma : {a : List Token} → first is_comma a ≡ false → behind_comma a ≡ a
behind_no_comma {a = a} h = ap (λ (b : Bool). behind_if b a) h

-- behind a comma that stands first are the tokens after it
pub behind_a_comma : {a c : List Token} → Head a (kinds.Mark points.Comma) c → behind_comma a ≡ c
behind_a_comma {a = a} h = ap (λ (b : Bool). behind_if b a) (head_first is_comma h) ∙ head_behind h

-- whether a comma was read is seen, where none comes after it
pub comma_seen : {a b : List Token} (comma : Bool) → SpellsTree a (comma_if comma) b → first is_comma b ≡ false → first is_comma a ≡ comma
comma_seen true h none = head_first is_comma (lone (kinds.Mark points.Comma) h)
comma_seen false h none = ap (first is_comma) h.follows ∙ none

-- behind a comma or none are the tokens after it, where no other comes
pub comma_behind : {a b : List Token} (comma : Bool) → SpellsTree a (comma_if comma) b → first is_comma b ≡ false → behind_comma a ≡ b
comma_behind true h none = behind_a_comma (lone (kinds.Mark points.Comma) h)
comma_behind false h none = ap behind_comma h.follows ∙ behind_no_comma none

-- a comma or none, before what may follow an expression, may follow one too
pub comma_ends : {a b : List Token} (comma : Bool) → SpellsTree a (comma_if comma) b → EndsExpression b → EndsExpression a
comma_ends true h k = ends (lone (kinds.Mark points.Comma) h) comma_end
comma_ends false h k = subst EndsExpression (sym h.follows) k

-- what may follow a row of elements, and one of declarations
pub record EndsElementsRow (b : List Token) : Type 0 where
  pub over : goes_on_elements b ≡ false
  pub none : begins (look b) ≡ false
  pub ends : EndsExpression b

-- neither a declaration begins there nor does one after a comma
pub record EndsEntriesRow (b : List Token) : Type 0 where
  pub over : goes_on_entries b ≡ false
  pub none : first is_entry b ≡ false
  pub ends : EndsExpression b

-- after the row comes a comma, or none, and then nothing that goes on
pub elements_row : {a b : List Token} (comma : Bool) → SpellsTree a (comma_if comma) b → begins (look b) ≡ false → first is_comma b ≡ false
    → EndsExpression b → EndsElementsRow a
elements_row {a = a} true h none no_comma k =
    let head = lone (kinds.Mark points.Comma) h in
    record {
      over = ap (λ (c : Bool). c && begins (look (behind a))) (head_first is_comma head)
          ∙ ap (λ (z : List Token). begins (look z)) (head_behind head) ∙ none;
      none = ap begins (head_look head);
      ends = ends head comma_end;
    }
elements_row {a = a} {b = b} false h none no_comma k =
    subst EndsElementsRow (sym h.follows) (record { over = ap (λ (c : Bool). c && begins (look (behind b))) no_comma; none = none; ends = k })

-- the same of declarations
pub entries_row : {a b : List Token} (comma : Bool) → SpellsTree a (comma_if comma) b → first is_entry b ≡ false → first is_comma b ≡ false
    → EndsExpression b → EndsEntriesRow a
entries_row {a = a} true h none no_comma k =
    let head = lone (kinds.Mark points.Comma) h in
    record {
      over = ap (λ (c : Bool). c && first is_entry (behind a)) (head_first is_comma head) ∙ ap (first is_entry) (head_behind head) ∙ none;
      none = head_first is_entry head;
      ends = ends head comma_end;
    }
entries_row {a = a} {b = b} false h none no_comma k =
    subst EndsEntriesRow (sym h.follows) (record { over = ap (λ (c : Bool). c && first is_entry (behind b)) no_comma; none = none; ends = k })
