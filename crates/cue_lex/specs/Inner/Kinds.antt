-- Beside `specs/Kinds.antt`: what private clauses and proofs alone cite.
use Rattle.std.specs.Prelude.{List}
use Rattle.std.specs.List.{AllByRecursion}
use Rattle.cue_lex.specs.declared.token.Token.{Token}
use Rattle.cue_lex.specs.Kinds.{HasWord}

abbrev pub EachHasWord : List Token → Type 0
EachHasWord = AllByRecursion (λ token. HasWord token.kind)
