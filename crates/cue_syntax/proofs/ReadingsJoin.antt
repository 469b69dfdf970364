-- How readings are put together.
use Rattle.std.proofs.Common.{◌≡◌, ℕ, List, [], ◌∷◌, ◌++◌, refl, sym, subst}
use Rattle.cue_lex.specs.declared.token.Token.{Token}
use Rattle.cue_lex.specs.declared.token.TokenKind.{TokenKind}
use Rattle.cue_syntax.specs.Spelling.{SpelledPiece, SpellsTree, Follows, one, one_at, place_first, IsTokenPlace}

follows_then : (a b c : List Token) (p q : List SpelledPiece) → Follows a p b → Follows b q c → Follows a (p ++ q) c
follows_then a b c [] q first second = subst (λ z. Follows z q c) (sym first) second
follows_then [] b c (x ∷ p) q first second = first
follows_then (t ∷ a) b c (x ∷ p) q first second = (first.0, first.1, follows_then a b c p q first.2 second)

-- what is read piece by piece in two parts is read as one row
pub reads_then : {a b c : List Token} {p q : List SpelledPiece} → SpellsTree a p b → SpellsTree b q c → SpellsTree a (p ++ q) c
reads_then first second = record { follows = follows_then _ _ _ _ _ first.follows second.follows }

-- no pieces are read from no tokens
pub reads_none : {a : List Token} → SpellsTree a [] a
reads_none = record { follows = refl }

-- a token is read as a piece of its kind
pub reads_one : {a b : List Token} {k : TokenKind} → (t : Token) → a ≡ t ∷ b → t.kind ≡ k → SpellsTree a (one k) b
reads_one {b = b} {k = k} t is kind = subst (λ z. SpellsTree z (one k) b) (sym is) (record { follows = (kind, tt, refl) })

-- a token is read as a piece of its kind that keeps its place
pub reads_one_at : {a b : List Token} {k : TokenKind} (t : Token) → a ≡ t ∷ b → t.kind ≡ k → SpellsTree a (one_at t.from k) b
reads_one_at {b = b} {k = k} t is kind = subst (λ z. SpellsTree z (one_at t.from k) b) (sym is) (record { follows = (kind, (refl, tt), refl) })

follows_placed : (a b : List Token) (p : List SpelledPiece) (from : ℕ) → IsTokenPlace a from → Follows a p b → Follows a (place_first from p) b
follows_placed a b [] from place reads = reads
follows_placed [] b (x ∷ p) from place reads = reads
follows_placed (t ∷ a) b (x ∷ p) from place reads = (reads.0, (place, reads.1), reads.2)

-- pieces that are read may be given the place of the first token
pub reads_placed : {a b : List Token} {p : List SpelledPiece} (from : ℕ) → IsTokenPlace a from → SpellsTree a p b → SpellsTree a (place_first from p) b
reads_placed from place reads = record { follows = follows_placed _ _ _ from place reads.follows }
