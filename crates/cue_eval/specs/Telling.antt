-- What the struct literals at a place declare together.
use Rattle.std.specs.Prelude.{◌≡◌, true}
use Rattle.cue_sets.specs.Texts.{RefusesText, IsTextSet}
use Rattle.cue_eval.specs.declared.declared.Declared.{Declared}
use Rattle.cue_eval.specs.declared.declared.DeclaredQuestion.{DeclaredQuestion}
use Rattle.cue_eval.specs.declared.declared.DeclaredQuestion.TheVariants.{Stands, Declares}

-- What it tells is what it refuses as a row of a table, so that unification unites: that a literal
-- stands there, and each label that is declared.
abbrev pub DeclaredRefuses : Declared → DeclaredQuestion → Type 0
DeclaredRefuses known Stands = known.stands ≡ true
DeclaredRefuses known (Declares l) = RefusesText known.undeclared l

abbrev pub IsDeclaredLabel : Declared → Type 0
IsDeclaredLabel known = IsTextSet known.undeclared
