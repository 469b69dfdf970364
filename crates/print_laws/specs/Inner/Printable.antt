-- Printed expressions that have a text: no part is missing, texts are words, and integers have 64
-- bits. What a valid table is printed as is one.
use Rattle.std.specs.Prelude.{List, [], ◌∷◌, Option, None, Some}
use Rattle.std.specs.List.{AllByRecursion}
use Rattle.cue_lattice.specs.Scalar.{IsInteger}
use Rattle.cue_lattice.specs.Word.{IsWord}
use Rattle.cue_print.specs.Expressions.{PrintedTerm, number, at_most}
use Rattle.cue_print.specs.Expressions.{at_least, between, text, other_texts}
use Rattle.cue_print.specs.Expressions.{Value, top, scalar, all, Parts, no_parts, struct, close}
use Rattle.cue_print.specs.Expressions.{list, bottom}
use Rattle.cue_print.specs.Expressions.{Fields, no_more, field, Elements, no_elements, element}
use Rattle.cue_print.specs.Expressions.{Ending, ends, goes_on, goes_on_as}

abbrev pub IsPrintableTerm : PrintedTerm → Type 0
IsPrintableTerm (number n) = IsInteger n
IsPrintableTerm (at_most n) = IsInteger n
IsPrintableTerm (at_least n) = IsInteger n
IsPrintableTerm (between m n) = IsInteger m × IsInteger n
IsPrintableTerm (text t) = IsWord t
IsPrintableTerm (other_texts []) = ⊥
IsPrintableTerm (other_texts (t ∷ ts)) = IsWord t × AllByRecursion IsWord ts
IsPrintableTerm _ = Unit {0}

abbrev pub ArePrintableTerms : List PrintedTerm → Type 0
ArePrintableTerms = AllByRecursion IsPrintableTerm

-- those of a default, where there is one
abbrev pub IsPrintableDefault : Option (List PrintedTerm) → Type 0
IsPrintableDefault None = Unit {0}
IsPrintableDefault (Some usual) = ArePrintableTerms usual

-- there is a part
abbrev pub HasPart : Parts → Type 0
HasPart no_parts = ⊥
HasPart _ = Unit {0}

abbrev mutual
  pub IsPrintable : Value → Type 0
  IsPrintable top = Unit {0}
  IsPrintable (scalar usual terms) = IsPrintableDefault usual × ArePrintableTerms terms
  IsPrintable (all parts) = HasPart parts × ArePrintableParts parts

  pub ArePrintableParts : Parts → Type 0
  ArePrintableParts no_parts = Unit {0}
  ArePrintableParts (struct fields parts) = ArePrintableFields fields × ArePrintableParts parts
  ArePrintableParts (close fields parts) = ArePrintableFields fields × ArePrintableParts parts
  ArePrintableParts (list elements ending parts) =
      ArePrintableElements elements × IsPrintableEnding ending × ArePrintableParts parts
  ArePrintableParts (bottom parts) = ArePrintableParts parts

  pub ArePrintableFields : Fields → Type 0
  ArePrintableFields no_more = Unit {0}
  ArePrintableFields (field label level value fields) =
      IsWord label × IsPrintable value × ArePrintableFields fields

  pub ArePrintableElements : Elements → Type 0
  ArePrintableElements no_elements = Unit {0}
  ArePrintableElements (element value elements) =
      IsPrintable value × ArePrintableElements elements

  pub IsPrintableEnding : Ending → Type 0
  IsPrintableEnding ends = Unit {0}
  IsPrintableEnding goes_on = Unit {0}
  IsPrintableEnding (goes_on_as value) = IsPrintable value
