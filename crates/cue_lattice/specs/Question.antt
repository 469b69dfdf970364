-- What a place of a configuration can be asked, and who refuses what. A level is 0 for an optional
-- field, 1 for a required one, 2 for a field that is there; a length is that of a list.
use Rattle.std.specs.Prelude.{◌↔◌, ℕ, List}
use Rattle.cue_lattice.specs.declared.scalar.Scalar.{Scalar}
use Rattle.cue_lattice.specs.Path.{Path}
use Rattle.cue_lattice.specs.OneOf.{OneOf}

pub data Question : Type 0 where
  may_be : Scalar → Question  -- may this scalar stand?
  usual : Scalar → Question  -- is it one of the usual scalars, of which a default is chosen?
  struct : Question  -- may a struct stand?
  list : Question  -- may a list?
  allows : List ℕ → Question  -- may this label stand directly below?
  level_at_most : ℕ → Question  -- may the level be this or less? (asked of 0 and 1)
  length_at_most : ℕ → Question  -- may the least length be this or less?
  length_at_least : ℕ → Question  -- may the greatest length be this or more?

-- what refuses which question at which path: this is all that the meaning of a constraint is
abbrev pub Refusals : Type 1
Refusals = Path → Question → Type 0

-- Unification: a set refuses what one of its members refuses. The empty set refuses nothing.
abbrev pub OneRefuses : {X : Type 0} → (X → Refusals) → List X → Refusals
OneRefuses refuses members path question = OneOf (λ member. refuses member path question) members

-- the same answers everywhere, whatever can be asked
abbrev pub SameAnswers : {Q : Type 0} → (Path → Q → Type 0) → (Path → Q → Type 0) → Type 0
SameAnswers {Q} a b = (path : Path) (question : Q) → a path question ↔ b path question

-- a refuses whatever b refuses
abbrev pub IsAsNarrowAs : {Q : Type 0} → (Path → Q → Type 0) → (Path → Q → Type 0) → Type 0
IsAsNarrowAs {Q} a b = (path : Path) (question : Q) → b path question → a path question
