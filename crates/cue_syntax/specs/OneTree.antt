-- What the grammar promises of a spelling.
use Rattle.std.specs.Prelude.{◌≡◌, List}
use Rattle.cue_lex.specs.declared.token.Token.{Token}
use Rattle.cue_syntax.specs.Syntax.{FileTree}
use Rattle.cue_syntax.specs.Grammar.{Limit, IsFileTree}

-- two trees of the grammar that the same tokens spell are one, whatever levels are allowed
abbrev pub NoTwoTrees : Type 0
NoTwoTrees =
    (limit other : Limit) (tokens : List Token) (a b : FileTree) → IsFileTree limit tokens a
    → IsFileTree other tokens b → a ≡ b
