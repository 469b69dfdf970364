-- Beside `specs/First.antt`: what private clauses and proofs alone cite.
use Rattle.cue_lex.specs.declared.lexeme.Lexeme.{Lexeme}
use Rattle.cue_lex.specs.declared.lexeme.Lexeme.TheVariants.{Word}

-- white space or a comment
abbrev pub IsBlank : Lexeme → Type 0
IsBlank (Word kind len) = ⊥
IsBlank _ = Unit {0}
