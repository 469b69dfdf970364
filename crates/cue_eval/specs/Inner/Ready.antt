-- Expressions whose tables can be made: what is known of the definitions that they use, and their
-- limits.
use Rattle.std.specs.Prelude.{◌≡◌, ◌≤◌, ◌<◌, ◌+◌, ◌↔◌, ◌⊎◌, ℕ, List, [], Option, Some, None, All}
use Rattle.std.specs.Prelude.{slice_index_or}
use Rattle.cue_lattice.specs.Limits.{size_limit, step_limit}
use Rattle.cue_lattice.specs.Path as paths
use Rattle.cue_lattice.specs.Path.{Path, label, index}
use Rattle.cue_lattice.specs.Question.{Question, SameAnswers}
use Rattle.cue_row.specs.Row.{RefusesAsked, IsRow}
use Rattle.cue_row.specs.Steps.{step_of}
use Rattle.cue_row.specs.declared.parts.RowParts.{RowParts as Row}
use Rattle.cue_row.specs.declared.step.Step.{Step}
use Rattle.cue_table.specs.Depth.{tree_depth}
use Rattle.cue_table.specs.Form.{IsTable}
use Rattle.cue_table.specs.Tree.{Tree}
use Rattle.cue_syntax.specs.Syntax as tree
use Rattle.cue_syntax.specs.Syntax.{Expression, Elements, Rest, Entries}
use Rattle.cue_syntax.specs.Grammar.{IsRight, AreRight, IsRightRest, AreRightEntries}
use Rattle.cue_syntax.specs.declared.tree.Label.{Label}
use Rattle.cue_scope.specs.Core as cores
use Rattle.cue_scope.specs.Core.{Core, ends, followed_by, Members}
use Rattle.cue_scope.specs.Definitions.{Definition}
use Rattle.cue_scope.specs.Graph.{IsNodeIn}
use Rattle.cue_scope.specs.Limits.{size, size_of_cores, size_of_elements, size_of_members, depth}
use Rattle.cue_scope.specs.Limits.{depth_of_cores, depth_of_elements, depth_of_members}
use Rattle.cue_scope.specs.Meaning.{meaning_of_number, meant_members, meant_fields, text_of}
use Rattle.cue_scope.specs.Terms.{terms, terms_of_elements, terms_of_rest, terms_of_entries}
use Rattle.cue_scope.specs.Uses.{uses, uses_of_elements, uses_of_rest, uses_of_entries}
use Rattle.cue_scope.specs.Uses.{uses_of_fields}
use Rattle.cue_eval.specs.declared.tables.TableBuilder.{TableBuilder}
use Rattle.cue_eval.specs.Evaluated.{HasAnswersOf}
use Rattle.cue_eval.specs.Inner.Known.{ArePairsKnown, definitions_of, core_of, parts_of, rest_of}
use Rattle.cue_eval.specs.Inner.Gathered.{TreeRefusals, GivenRefuse}
use Rattle.cue_eval.specs.Places.{IsAtPlace, MarkRefuses}
use Rattle.cue_eval.specs.Refuses as refusing
use Rattle.cue_eval.specs.Refuses.{FieldRefuses, ElementRefuses}

abbrev pub all_definitions : TableBuilder → List Definition
all_definitions known = definitions_of known.pairs

abbrev pub members_of : TableBuilder → Entries → Members
members_of known es = meant_members (all_definitions known) (meaning_of_number (all_definitions known)) es

-- the regular declarations
abbrev pub fields_of : TableBuilder → Entries → Members
fields_of known es = meant_fields (all_definitions known) (meaning_of_number (all_definitions known)) es

-- a table in form that refuses what the expression does
pub record IsTableOf (c : Core) (table : Tree Row) : Type 0 where
  pub form : IsTable RefusesAsked IsRow table
  pub answers : HasAnswersOf c table

abbrev pub IsTableAt : Core → Option (Tree Row) → Type 0
IsTableAt c None = ⊥
IsTableAt c (Some table) = IsTableOf c table

-- of each of these definitions the table is known, and the pair where it is scalar
pub record AreKnown (known : TableBuilder) (is : List ℕ) : Type 0 where
  pub pairs : ArePairsKnown known.pairs is
  pub tables : (i : ℕ) → IsNodeIn i is
      → IsTableAt (meaning_of_number (all_definitions known) i) (slice_index_or known.tables.now i None)

-- An expression of the grammar whose terms are scalar, that is neither too large nor too deep, and
-- that uses known definitions.
pub record IsReady (known : TableBuilder) (e : Expression) : Type 0 where
  pub right : IsRight e
  pub used : AreKnown known (uses (all_definitions known) e)
  pub terms : terms (all_definitions known) (meaning_of_number (all_definitions known)) e ≡ []
  pub size : size (core_of known.pairs e) ≤ size_limit
  pub depth : depth (core_of known.pairs e) ≤ step_limit

-- the parts of a conjunction
pub record AreReadyParts (known : TableBuilder) (es : Elements) : Type 0 where
  pub right : AreRight es
  pub used : AreKnown known (uses_of_elements (all_definitions known) es)
  pub terms : terms_of_elements (all_definitions known) (meaning_of_number (all_definitions known)) es ≡ []
  pub size : size_of_cores (parts_of known.pairs es) ≤ size_limit
  pub depth : depth_of_cores (parts_of known.pairs es) ≤ step_limit

-- the elements of a list
pub record AreReadyElements (known : TableBuilder) (es : Elements) : Type 0 where
  pub right : AreRight es
  pub used : AreKnown known (uses_of_elements (all_definitions known) es)
  pub terms : terms_of_elements (all_definitions known) (meaning_of_number (all_definitions known)) es ≡ []
  pub size : size_of_elements (followed_by (parts_of known.pairs es) ends) ≤ size_limit
  pub depth : depth_of_elements (followed_by (parts_of known.pairs es) ends) ≤ step_limit

-- what stands behind the elements of a list
pub record IsReadyRest (known : TableBuilder) (rest : Rest) : Type 0 where
  pub right : IsRightRest rest
  pub used : AreKnown known (uses_of_rest (all_definitions known) rest)
  pub terms : terms_of_rest (all_definitions known) (meaning_of_number (all_definitions known)) rest ≡ []
  pub size : size_of_elements (rest_of known.pairs rest) ≤ size_limit
  pub depth : depth_of_elements (rest_of known.pairs rest) ≤ step_limit

-- the declarations of a struct literal
pub record AreReadyEntries (known : TableBuilder) (es : Entries) : Type 0 where
  pub right : AreRightEntries es
  pub used : AreKnown known (uses_of_entries (all_definitions known) es)
  pub terms : terms_of_entries (all_definitions known) (meaning_of_number (all_definitions known)) es ≡ []
  pub size : size_of_members (members_of known es) ≤ size_limit
  pub depth : depth_of_members (members_of known es) ≤ step_limit

-- the regular declarations of a struct literal or of a text
pub record AreReadyFields (known : TableBuilder) (es : Entries) : Type 0 where
  pub right : AreRightEntries es
  pub used : AreKnown known (uses_of_fields (all_definitions known) es)
  pub terms : terms_of_entries (all_definitions known) (meaning_of_number (all_definitions known)) es ≡ []
  pub size : size_of_members (fields_of known es) ≤ size_limit
  pub depth : depth_of_members (fields_of known es) ≤ step_limit

-- a field with its step: what its mark and its value refuse
pub record IsField (l : Label) (c : Core) (field : Step × Tree Row) : Type 0 where
  pub step : step_of field.0 ≡ label (text_of l.name)
  pub deep : tree_depth field.1 < step_limit
  pub answers : SameAnswers (TreeRefusals field.1)
      (λ path question. IsAtPlace (MarkRefuses l.mark) path question ⊎ refusing.Refuses c path question)

-- what is given refuses at each step what it is to refuse there, and can be hung in
pub record AreGiven (all : paths.Step → Path → Question → Type 0)
    (given : List (Step × Tree Row)) : Type 0 where
  pub refused : (step : paths.Step) (path : Path) (question : Question)
      → GivenRefuse given step path question ↔ all step path question
  pub deep : All (λ one. tree_depth one.1 < step_limit) given

-- the fields of declarations, by their steps
abbrev pub AtLabels : Members → paths.Step → Path → Question → Type 0
AtLabels ms (label l) path question = FieldRefuses ms l path question
AtLabels ms (index i) path question = ⊥

-- elements, by their steps, of which the first has this index
abbrev pub AtIndexes : ℕ → cores.Elements → paths.Step → Path → Question → Type 0
AtIndexes first es (label l) path question = ⊥
AtIndexes first es (index i) path question =
    (k : ℕ) × (first + k ≡ i) × ElementRefuses es k path question

-- a literal of scalars, or a disjunction
abbrev pub IsScalarLeaf : Expression → Type 0
IsScalarLeaf (tree.integer n) = Unit {0}
IsScalarLeaf (tree.text t) = Unit {0}
IsScalarLeaf tree.bottom = Unit {0}
IsScalarLeaf (tree.bound c n) = Unit {0}
IsScalarLeaf (tree.other_integer n) = Unit {0}
IsScalarLeaf (tree.other_text t) = Unit {0}
IsScalarLeaf (tree.disjunction bs) = Unit {0}
IsScalarLeaf _ = ⊥
