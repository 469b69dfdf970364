-- Beside `specs/Viability.antt`: what private clauses and proofs alone cite.
use Rattle.std.specs.Prelude.{Bool, true, false, List, [], ◌∷◌}
use Rattle.std.specs.Prelude.{⊤, if◌then◌else◌}
use Rattle.cue_lex.specs.declared.token.Token.{Token}
use Rattle.cue_lex.specs.declared.token.TokenKind.{TokenKind}
use Rattle.cue_lex.specs.declared.token.TokenKind.TheVariants as kinds
use Rattle.cue_lex.specs.declared.punctuation.Punctuation.TheVariants as points
use Rattle.cue_syntax.specs.Syntax.{FileTree}
use Rattle.cue_syntax.specs.Grammar.{Limit, IsFileTree}

-- no tree of the grammar within the limit is spelled by these tokens
abbrev pub HasNoTree : Limit → List Token → Type 0
HasNoTree limit tokens = (tree : FileTree) → ¬ IsFileTree limit tokens tree

abbrev pub IsName : TokenKind → Type 0
IsName (kinds.Name t) = ⊤
IsName _ = ⊥

abbrev pub IsIdentifier : TokenKind → Type 0
IsIdentifier (kinds.Name t) = ⊤
IsIdentifier (kinds.Definition t) = ⊤
IsIdentifier (kinds.Hidden t) = ⊤
IsIdentifier _ = ⊥

abbrev pub IsComparison : TokenKind → Type 0
IsComparison (kinds.Mark points.Less) = ⊤
IsComparison (kinds.Mark points.AtMost) = ⊤
IsComparison (kinds.Mark points.Greater) = ⊤
IsComparison (kinds.Mark points.AtLeast) = ⊤
IsComparison _ = ⊥

-- a declaration can begin with such a token
abbrev pub can_begin : Bool → TokenKind → Bool
can_begin top (kinds.Name t) = true
can_begin top (kinds.Text t) = true
can_begin top (kinds.Definition t) = top
can_begin top _ = false

-- what is left after the first token, if a declaration can begin with it
abbrev pub behind_begun : Bool → List Token → List Token
behind_begun top [] = []
behind_begun top (token ∷ tokens) = if can_begin top token.kind then tokens else token ∷ tokens
