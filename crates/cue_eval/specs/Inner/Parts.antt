-- The parts of an `&`: scalars among them, and definitions that they name.
use Rattle.std.specs.Prelude.{◌≡◌, ◌↔◌, ◌⊎◌, ℕ, List, [], ◌∷◌}
use Rattle.cue_lattice.specs.OneOf.{OneOf}
use Rattle.cue_lattice.specs.Path.{Path}
use Rattle.cue_lattice.specs.Question.{Question}
use Rattle.cue_row.specs.declared.parts.RowParts.{RowParts as Row}
use Rattle.cue_scalars.specs.Values.{pair_of_value}
use Rattle.cue_scalars.specs.declared.valued.Valued.{Valued}
use Rattle.cue_table.specs.Tree.{Tree}
use Rattle.cue_syntax.specs.declared.tree.Expr.{Expr}
use Rattle.cue_syntax.specs.declared.tree.Identifier.TheVariants.{Plain}
use Rattle.cue_syntax.specs.Syntax.{Expression, expression, name, parenthesis}
use Rattle.cue_scope.specs.Core.{Core}
use Rattle.cue_scope.specs.Definitions.{Definition}
use Rattle.cue_scope.specs.Meaning.{meaning_of_number, meant}
use Rattle.cue_scope.specs.Uses.{uses}
use Rattle.cue_eval.specs.Inner.Gathered.{TreeRefusals}
use Rattle.cue_eval.specs.Places.{IsAtPlace, ScalarRefuses}
use Rattle.cue_eval.specs.Inner.Ready.{IsScalarLeaf}
use Rattle.cue_eval.specs.Refuses.{Refuses}

-- the part is a use of the definition of this number, and nothing else
pub record IsUseOf (ds : List Definition) (part : Expr) (number : ℕ) : Type 0 where
  pub used : uses ds (expression part) ≡ number ∷ []
  pub means : (m : ℕ → Core) → meant ds m (expression part) ≡ m number

-- to the tables of a list come those of definitions: what is refused then
abbrev pub AreAdded : List Definition → List (Tree Row) → List ℕ → List (Tree Row) → Type 0
AreAdded ds old numbers new =
    (path : Path) (question : Question) → OneOf (λ table. TreeRefusals table path question) new
    ↔ (OneOf (λ table. TreeRefusals table path question) old
    ⊎ OneOf (λ i. Refuses (meaning_of_number ds i) path question) numbers)

-- a literal of scalars, a disjunction or a name of the language, also in parentheses
abbrev pub IsScalarPart : Expression → Type 0
IsScalarPart (name (Plain t) from) = Unit {0}
IsScalarPart (parenthesis e comma) = IsScalarPart e
IsScalarPart e = IsScalarLeaf e

-- what one of these scalars refuses at its own place
abbrev pub OneScalarRefuses : List Valued → Path → Question → Type 0
OneScalarRefuses scalars path question =
    OneOf (λ valued. IsAtPlace (ScalarRefuses (pair_of_value valued)) path question) scalars

-- to the tables of a list comes what scalars refuse
abbrev pub AreJoined : List (Tree Row) → List Valued → List (Tree Row) → Type 0
AreJoined old scalars new =
    (path : Path) (question : Question) → OneOf (λ table. TreeRefusals table path question) new
    ↔ (OneOf (λ table. TreeRefusals table path question) old ⊎ OneScalarRefuses scalars path question)
