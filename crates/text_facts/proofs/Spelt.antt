-- Short names for what facts of tokens say.
use Rattle.std.specs.Prelude.{◌+◌, ℕ, List, Result, Err}
use Rattle.cue_lattice.specs.declared.refusal.Kind.{Kind}
use Rattle.cue_lattice.specs.declared.refusal.Refusal.{Refusal}
use Rattle.cue_lattice.specs.Refusal.{refusal_at}
use Rattle.cue_lex.specs.declared.punctuation.Punctuation.{Punctuation}
use Rattle.cue_lex.specs.declared.token.Token.{Token}
use Rattle.cue_lex.specs.declared.token.TokenKind.{TokenKind}
use Rattle.cue_lex.specs.declared.token.TokenKind.TheVariants.{Name, Integer, Mark}

-- a token of this kind, from a byte to before a byte
abbrev pub at : ℕ → ℕ → TokenKind → Token
at from to kind = record { kind = kind; from = from; to = to }

-- a mark of one byte
abbrev pub mark_at : ℕ → Punctuation → Token
mark_at from mark = at from (from + 1) (Mark mark)

-- a plain name of one ASCII letter
abbrev pub name_at : ℕ → List ℕ → Token
name_at from name = at from (from + 1) (Name name)

-- an integer of one digit
abbrev pub digit_at : ℕ → ℕ → Token
digit_at from n = at from (from + 1) (Integer n)

-- a fault of this kind at this byte
abbrev pub fault : {A : Type 0} → Kind → ℕ → Result A Refusal
fault kind place = Err (refusal_at kind place)
