-- What is known of the definitions that an expression uses.
use Rattle.std.specs.Prelude.{◌≡◌, ℕ, List, Option, Some, None, IsTrue, slice_index_or}
use Rattle.cue_scalars.specs.declared.valued.Valued.{Valued}
use Rattle.cue_scalars.specs.Values.{pair_of_value}
use Rattle.cue_syntax.specs.Syntax.{Expression, Elements, Rest, Branches}
use Rattle.cue_syntax.specs.Grammar.{IsRight, AreRight, AreRightBranches}
use Rattle.cue_syntax.specs.declared.tree.Identifier.{Identifier}
use Rattle.cue_scope.specs.Core as cores
use Rattle.cue_scope.specs.Core.{Core, Cores, Choices, is_scalar, are_scalar, are_scalar_choices}
use Rattle.cue_scope.specs.Definitions.{Definition}
use Rattle.cue_scope.specs.Graph.{IsNodeIn}
use Rattle.cue_scope.specs.Kept.{nodes_kept}
use Rattle.cue_scope.specs.Meaning.{meaning_of_number, meant, meant_name, meant_elements, meant_rest}
use Rattle.cue_scope.specs.Meaning.{meant_branches}
use Rattle.cue_scope.specs.Uses.{uses, uses_of_name, uses_of_elements, uses_of_branches}
use Rattle.cue_eval.specs.declared.pair.Pairs.{Pairs}
use Rattle.cue_eval.specs.Pairs.{pair}

abbrev pub definitions_of : Pairs → List Definition
definitions_of known = nodes_kept known.definitions.now

-- what names, expressions, parts, the end of a list and terms mean
abbrev pub named_core : Pairs → Identifier → Core
named_core known name = meant_name (definitions_of known) (meaning_of_number (definitions_of known)) name

abbrev pub core_of : Pairs → Expression → Core
core_of known e = meant (definitions_of known) (meaning_of_number (definitions_of known)) e

abbrev pub parts_of : Pairs → Elements → Cores
parts_of known es = meant_elements (definitions_of known) (meaning_of_number (definitions_of known)) es

abbrev pub rest_of : Pairs → Rest → cores.Elements
rest_of known rest = meant_rest (definitions_of known) (meaning_of_number (definitions_of known)) rest

abbrev pub choices_of : Pairs → Branches → Choices
choices_of known bs = meant_branches (definitions_of known) (meaning_of_number (definitions_of known)) bs

-- the value and the default of this expression
abbrev pub IsPairOf : Core → Option Valued → Type 0
IsPairOf c None = ⊥
IsPairOf c (Some valued) = pair_of_value valued ≡ pair c

-- the pair of each of these definitions that is scalar is known
abbrev pub ArePairsKnown : Pairs → List ℕ → Type 0
ArePairsKnown known is =
    (i : ℕ) → IsNodeIn i is → IsTrue (is_scalar (meaning_of_number (definitions_of known) i))
    → IsPairOf (meaning_of_number (definitions_of known) i) (slice_index_or known.pairs.now i None)

-- A scalar expression of the grammar has a pair that can be found.
pub record IsPairable (known : Pairs) (e : Expression) : Type 0 where
  pub right : IsRight e
  pub scalar : IsTrue (is_scalar (core_of known e))
  pub used : ArePairsKnown known (uses (definitions_of known) e)

pub record ArePairable (known : Pairs) (es : Elements) : Type 0 where
  pub right : AreRight es
  pub scalar : IsTrue (are_scalar (parts_of known es))
  pub used : ArePairsKnown known (uses_of_elements (definitions_of known) es)

pub record ArePairableTerms (known : Pairs) (bs : Branches) : Type 0 where
  pub right : AreRightBranches bs
  pub scalar : IsTrue (are_scalar_choices (choices_of known bs))
  pub used : ArePairsKnown known (uses_of_branches (definitions_of known) bs)

pub record IsPairableName (known : Pairs) (name : Identifier) : Type 0 where
  pub scalar : IsTrue (is_scalar (named_core known name))
  pub used : ArePairsKnown known (uses_of_name (definitions_of known) name)
