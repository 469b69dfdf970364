-- What printed expressions refuse, and what a row refuses that they are printed for.
use Rattle.std.specs.Prelude.{◌≡◌, ◌<◌, ◌≤◌, ◌⊎◌, ℕ, List, [], ◌∷◌, Option, None, Some}
use Rattle.cue_lattice.specs.Path.{Path, label, index}
use Rattle.cue_lattice.specs.Question as questions
use Rattle.cue_lattice.specs.Question.{Question}
use Rattle.cue_lattice.specs.Scalar.{IsScalar}
use Rattle.cue_row.specs.declared.level.Level.{Level}
use Rattle.cue_row.specs.declared.parts.RowParts.{RowParts as Row}
use Rattle.cue_row.specs.Kinds.{IsRowKind}
use Rattle.cue_row.specs.LabelSets.{RefusesLabel}
use Rattle.cue_row.specs.Lengths.{RefusesLength}
use Rattle.cue_row.specs.Row.{RowRefusesQuestion}
use Rattle.cue_row.specs.declared.kind.RowKind.TheVariants as kinds
use Rattle.cue_scope.specs.Core.{Core, Members}
use Rattle.cue_scope.specs.Definitions.{Definition}
use Rattle.cue_scope.specs.Meaning.{meant, meant_elements, meant_members}
use Rattle.cue_eval.specs.Places.{IsAtPlace, StructRefuses, MarkRefuses}
use Rattle.cue_eval.specs.Refuses.{Refuses, PartsRefuse, FieldRefuses}
use Rattle.cue_print.specs.Expressions.{Value, top, Parts, Fields, no_more, field}
use Rattle.print_laws.specs.PrintedTree.{label_mark, value_tree, part_trees, field_trees}

module _ (ds : List Definition) (meaning : ℕ → Core) where
  abbrev pub ValueRefuses : Value → Path → Question → Type 0
  ValueRefuses value = Refuses (meant ds meaning (value_tree value))

  -- one of the parts does
  abbrev pub OnePartRefuses : Parts → Path → Question → Type 0
  OnePartRefuses parts = PartsRefuse (meant_elements ds meaning (part_trees parts))

  abbrev pub members_of : Fields → Members
  members_of fields = meant_members ds meaning (field_trees fields)

  -- the fields of a label do, at a path below it
  abbrev pub FieldsRefuse : Fields → List ℕ → Path → Question → Type 0
  FieldsRefuse fields = FieldRefuses (members_of fields)

  -- a field of this level and value does, at a path below its label
  abbrev pub OneFieldRefuses : Level → Value → Path → Question → Type 0
  OneFieldRefuses level value path question =
      IsAtPlace (MarkRefuses (label_mark level)) path question ⊎ ValueRefuses value path question

-- ---- fields of labels that differ
abbrev pub IsNewLabel : List ℕ → Fields → Type 0
IsNewLabel l no_more = Unit {0}
IsNewLabel l (field name level value fields) = (name ≡ l → ⊥) × IsNewLabel l fields

abbrev pub AreDistinct : Fields → Type 0
AreDistinct no_more = Unit {0}
AreDistinct (field name level value fields) = IsNewLabel name fields × AreDistinct fields

-- ---- places
-- the labels that may stand refuse the others
abbrev pub LabelsRefuse : Option (List (List ℕ)) → Question → Type 0
LabelsRefuse labels (questions.allows l) = RefusesLabel labels l
LabelsRefuse labels _ = ⊥

-- where a struct stands, by the labels that may stand and the fields below
abbrev pub AsStruct : Option (List (List ℕ)) → (List ℕ → Path → Question → Type 0) → Path
    → Question → Type 0
AsStruct labels fields [] question = StructRefuses question ⊎ LabelsRefuse labels question
AsStruct labels fields (label l ∷ path) question = fields l path question
AsStruct labels fields (index i ∷ path) question = ⊥

-- what each element from the least length of a list on is, where something is said of it or not
abbrev pub further_value : Option Value → Value
further_value None = top
further_value (Some value) = value

-- from the least length on each element is so
abbrev pub AreFurther : ℕ → (ℕ → Value) → Option Value → Type 0
AreFurther least value_at further = (i : ℕ) → least ≤ i → value_at i ≡ further_value further

-- where a list stands, by its least length and its greatest
abbrev pub LengthsRefuse : ℕ → Option ℕ → Question → Type 0
LengthsRefuse least most (questions.may_be scalar) = IsScalar scalar
LengthsRefuse least most (questions.usual scalar) = IsScalar scalar
LengthsRefuse least most questions.struct = Unit {0}
LengthsRefuse least most (questions.length_at_most n) = n < least
LengthsRefuse least most (questions.length_at_least n) = RefusesLength most n
LengthsRefuse least most _ = ⊥

abbrev pub AsList : ℕ → Option ℕ → (ℕ → Path → Question → Type 0) → Path → Question → Type 0
AsList least most elements [] question = LengthsRefuse least most question
AsList least most elements (label l ∷ path) question = ⊥
AsList least most elements (index i ∷ path) question = elements i path question

-- what a row refuses but for its level, which stands at its label
abbrev pub PlaceRefuses : Row → Question → Type 0
PlaceRefuses row (questions.level_at_most k) = ⊥
PlaceRefuses row question = RowRefusesQuestion row question

-- what a row refuses and what is refused below it
abbrev pub RowAndBelow : Row → (List ℕ → Path → Question → Type 0)
    → (ℕ → Path → Question → Type 0) → Path → Question → Type 0
RowAndBelow row fields elements [] question = PlaceRefuses row question
RowAndBelow row fields elements (label l ∷ path) question = fields l path question
RowAndBelow row fields elements (index i ∷ path) question = elements i path question

-- Fields and elements stand below the kinds of rows that can hold them alone.
pub record FitKinds (row : Row) (labelled : List ℕ → Path → Question → Type 0)
    (numbered : ℕ → Path → Question → Type 0) : Type 0 where
  pub fields : (l : List ℕ) (path : Path) (question : Question) → labelled l path question
      → IsRowKind row kinds.Struct ⊎ IsRowKind row kinds.Nothing
  pub elements : (i : ℕ) (path : Path) (question : Question) → numbered i path question
      → IsRowKind row kinds.List ⊎ IsRowKind row kinds.Nothing
