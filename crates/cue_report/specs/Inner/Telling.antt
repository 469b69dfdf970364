-- Beside `specs/Telling.antt`: what private clauses and proofs alone cite.
use Rattle.std.specs.Prelude.{◌≡◌, ◌+◌, List, ◌++◌, length, Option, None, Some}
use Rattle.cue_report.specs.Telling.{Tally}

-- known pieces grow by these
abbrev pub ExtendsKnown : {X : Type 0} → Option (List X) → Option (List X) → List X → Type 0
ExtendsKnown None new more = Unit {0}
ExtendsKnown (Some xs) None more = ⊥
ExtendsKnown (Some xs) (Some ys) more = ys ≡ xs ++ more

-- these were written
pub record WritesPieces {X : Type 0} (old new : Tally X) (more : List X) : Type 0 where
  pub count : new.count ≡ old.count + length more
  pub known : ExtendsKnown old.known new.known more

-- some in front of these were written
pub record WritesPiecesPrefix {X : Type 0} (old new : Tally X) (more : List X) : Type 0 where
  pub front : List X
  pub back : List X
  pub whole : more ≡ front ++ back
  pub added : ExtendsKnown old.known new.known front
