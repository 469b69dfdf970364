-- Beside `specs/Tokens.antt`: what private clauses and proofs alone cite.
use Rattle.std.specs.Prelude.{List, ◌++◌}
use Rattle.std.specs.Prelude.{Result, Ok, Err, ◌+◌}
use Rattle.cue_lattice.specs.declared.refusal.Refusal.{Refusal}
use Rattle.cue_lex.specs.declared.token.Token.{Token}

-- tokens in front of the others
abbrev pub prepend_tokens : List Token → Result (List Token) Refusal → Result (List Token) Refusal
prepend_tokens front (Ok found) = Ok (front ++ found)
prepend_tokens front (Err refusal) = Err refusal
