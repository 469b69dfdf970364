-- Texts that stand in front of others, and lists of texts, with the kinds of their tokens.
use Rattle.std.specs.Prelude.{ℕ, Bool, false, List, [], ◌∷◌, ◌++◌}
use Rattle.cue_lex.specs.declared.token.TokenKind.{TokenKind}
use Rattle.print_laws.specs.Kinds.{HasKinds, IsTokenEnd, IsKindRead}

-- In front of any rest the text adds tokens of these kinds; the last of them ends no line.
pub record Leads (text : List ℕ) (kinds : List TokenKind) : Type 0 where
  pub leads : (ended : Bool) (rest : List ℕ) (more : List TokenKind)
      → HasKinds false false rest more → HasKinds false ended (text ++ rest) (kinds ++ more)

-- the text begins with a byte that no token goes on with
abbrev pub HasTokenEnd : List ℕ → Type 0
HasTokenEnd text = (rest : List ℕ) → IsTokenEnd (text ++ rest)

-- each text adds the kinds that stand beside it
abbrev pub AreRead : List (List ℕ) → List (List TokenKind) → Type 0
AreRead [] [] = Unit {0}
AreRead (text ∷ texts) (kinds ∷ others) = IsKindRead text kinds × AreRead texts others
AreRead _ _ = ⊥
