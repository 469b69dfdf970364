-- What a text begins with, white space and comments apart. Before that nothing is kept, so that no
-- memory is wanted.
use Rattle.std.specs.Prelude.{ℕ, zero, suc, Bool, true, false, List, [], ◌∷◌, Result, Ok, Err}
use Rattle.std.specs.Prelude.{◌+◌, ◌-◌, ◌==◌}
use Rattle.cue_lattice.specs.declared.refusal.Refusal.{Refusal}
use Rattle.cue_lex.specs.declared.lexeme.Lexeme.{Lexeme}
use Rattle.cue_lex.specs.declared.lexeme.Lexeme.TheVariants.{Blank, LineBreak, Word}
use Rattle.cue_lex.specs.Lexemes.{lexeme}

-- Whether a token or a quote stands at a place, or blanks and then one of them: rest takes how many
-- further bytes belong to a blank.
abbrev pub is_first : ℕ → Result Lexeme Refusal → (ℕ → Bool) → Bool
is_first byte (Err refusal) rest = byte == 34
is_first byte (Ok (Blank len)) rest = rest (len - 1)
is_first byte (Ok LineBreak) rest = rest 0
is_first byte (Ok (Word kind len)) rest = true

-- Whether the bytes from a place on begin, after white space and comments, with a token or a quote.
-- The first of the bytes, as many as inside says, still belong to what stands before.
abbrev pub begins_from : ℕ → ℕ → List ℕ → Bool
begins_from inside place [] = false
begins_from (suc inside) place (b ∷ bytes) = begins_from inside (place + 1) bytes
begins_from zero place (b ∷ bytes) =
    is_first b (lexeme false place (b ∷ bytes)) (λ inside. begins_from inside (place + 1) bytes)

-- whether a text begins, after white space and comments, with a token or a quote
unfoldable pub begins_some : List ℕ → Bool
begins_some text = begins_from 0 0 text
