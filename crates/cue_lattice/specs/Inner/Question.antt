-- Beside `specs/Question.antt`: what private clauses and proofs alone cite.
use Rattle.cue_lattice.specs.Question.{Refusals}

-- nothing is refused
abbrev pub Open : Refusals
Open path question = ⊥
