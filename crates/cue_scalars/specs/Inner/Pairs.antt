-- Beside `specs/Pairs.antt`: what private clauses and proofs alone cite.
use Rattle.std.specs.Prelude.{Bool}
use Rattle.cue_scalars.specs.Pairs.{ScalarPair, default_of}

-- a term, with what it brings as default
abbrev pub term_of : Bool → Bool × ScalarPair → ScalarPair
term_of any_marked term = record { value = term.1.value; usual = default_of any_marked term }
