-- What the scalars of a row mean, as they are printed.
use Rattle.std.specs.Prelude.{ℕ, List}
use Rattle.cue_lattice.specs.Question as questions
use Rattle.cue_lattice.specs.Question.{Question, SameAnswers}
use Rattle.cue_scalars.specs.Scalars.{IsScalarSet, IsScalarsWithin, RefusesScalar}
use Rattle.cue_scalars.specs.declared.scalar_set.ScalarSet.{ScalarSet}
use Rattle.cue_row.specs.Kinds.{IsEmptySet}
use Rattle.cue_scope.specs.Core.{Core}
use Rattle.cue_scope.specs.Definitions.{Definition}
use Rattle.cue_scope.specs.Meaning.{meant}
use Rattle.cue_eval.specs.Places.{IsAtPlace}
use Rattle.cue_eval.specs.Refuses.{Refuses}
use Rattle.cue_print.specs.Difference.{scalars_without}
use Rattle.cue_print.specs.Expressions.{Value}
use Rattle.cue_print.specs.Printed.{scalar_value}
use Rattle.cue_print.specs.Terms.{terms_of}
use Rattle.print_laws.specs.PrintedTree.{value_tree}

-- what a row refuses where these scalars may stand, those are usual, and nothing else may stand
abbrev pub SetsRefuse : ScalarSet → ScalarSet → Question → Type 0
SetsRefuse value usual (questions.may_be scalar) = RefusesScalar value scalar
SetsRefuse value usual (questions.usual scalar) = RefusesScalar usual scalar
SetsRefuse value usual questions.struct = Unit {0}
SetsRefuse value usual questions.list = Unit {0}
SetsRefuse value usual _ = ⊥

-- both sets are in their one form; some scalar may stand, and what is usual may stand
pub record AreScalars (value usual : ScalarSet) : Type 0 where
  pub value_set : IsScalarSet value
  pub usual_set : IsScalarSet usual
  pub some : ¬ IsEmptySet value
  pub within : IsScalarsWithin usual value

-- what the scalars of a row are printed as
abbrev pub printed_scalars : ScalarSet → ScalarSet → Value
printed_scalars value usual =
    scalar_value (terms_of value) (terms_of usual) (terms_of (scalars_without value usual))

-- Printed scalars refuse at their own place what the row does, and nothing below it.
abbrev pub AreScalarsMeant : Type 0
AreScalarsMeant =
    (ds : List Definition) (meaning : ℕ → Core) (value usual : ScalarSet) → AreScalars value usual
    → SameAnswers (Refuses (meant ds meaning (value_tree (printed_scalars value usual))))
    (IsAtPlace (SetsRefuse value usual))
