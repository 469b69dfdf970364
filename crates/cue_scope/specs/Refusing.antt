-- Which texts are legal, and which check refuses the others, at which place.
use Rattle.std.specs.Prelude.{ℕ, ◌≡◌, ◌<◌, ◌≤◌, List, [], Some, slice_get}
use Rattle.std.specs.Option.{option_map}
use Rattle.cue_lattice.specs.declared.refusal.Kind.{Kind}
use Rattle.cue_lattice.specs.declared.refusal.Kind.TheVariants as kinds
use Rattle.cue_lattice.specs.declared.refusal.Refusal.{Refusal}
use Rattle.cue_lattice.specs.Limits.{size_limit, step_limit}
use Rattle.cue_syntax.specs.Syntax.{Entries}
use Rattle.cue_scope.specs.Definitions.{Definition, definitions, repeated_names}
use Rattle.cue_scope.specs.Names.{name_faults}
use Rattle.cue_scope.specs.First.{IsFirstName}
use Rattle.cue_scope.specs.Uses.{graph}
use Rattle.cue_scope.specs.Graph.{IsAcyclic, IsFirstCycle}
use Rattle.cue_scope.specs.Terms.{bad_terms}
use Rattle.cue_scope.specs.Meaning.{meant_text}
use Rattle.cue_scope.specs.Limits.{size, depth}

-- no definition has the name of an earlier one
abbrev pub IsUnrepeated : Entries → Type 0
IsUnrepeated es = repeated_names (definitions es) ≡ []

-- moreover, each name has a meaning
pub record IsEachNamed (es : Entries) : Type 0 where
  pub unrepeated : IsUnrepeated es
  pub names : name_faults es ≡ []

-- moreover, no definition reaches itself
pub record IsOrdered (es : Entries) : Type 0 where
  pub named : IsEachNamed es
  pub acyclic : IsAcyclic (graph (definitions es))

-- moreover, each term of a disjunction is scalar
pub record HasScalarTerms (es : Entries) : Type 0 where
  pub ordered : IsOrdered es
  pub terms : bad_terms es ≡ []

-- moreover, the text isn't too large
pub record IsSmallTree (es : Entries) : Type 0 where
  pub scalar : HasScalarTerms es
  pub size : size (meant_text es) ≤ size_limit

-- A text that passes each check.
pub record IsLegalTree (es : Entries) : Type 0 where
  pub small : IsSmallTree es
  pub depth : depth (meant_text es) ≤ step_limit

-- the first definition in text order that reaches itself has this place
pub record IsCycleAt (ds : List Definition) (at : ℕ) : Type 0 where
  pub number : ℕ
  pub first : IsFirstCycle (graph ds) number
  pub place : option_map (λ d. d.place) (slice_get ds number) ≡ Some at

-- The checks in their order: each refuses a text that passes those before it.
abbrev pub RefusesAs : Entries → Kind → ℕ → Type 0
RefusesAs es kinds.Repeated place = IsFirstName place (repeated_names (definitions es))
RefusesAs es kinds.UnknownName place =
    IsUnrepeated es × IsFirstName (record { kind = kinds.UnknownName; place = place }) (name_faults es)
RefusesAs es kinds.FieldReference place =
    IsUnrepeated es
    × IsFirstName (record { kind = kinds.FieldReference; place = place }) (name_faults es)
RefusesAs es kinds.Cycle place = IsEachNamed es × IsCycleAt (definitions es) place
RefusesAs es kinds.NotScalar place = IsOrdered es × IsFirstName place (bad_terms es)
RefusesAs es kinds.TooLarge place =
    HasScalarTerms es × (size_limit < size (meant_text es)) × (place ≡ 0)
RefusesAs es kinds.TooDeep place = IsSmallTree es × (step_limit < depth (meant_text es)) × (place ≡ 0)
RefusesAs es _ place = ⊥

abbrev pub TextRefuses : Entries → Refusal → Type 0
TextRefuses es refusal = RefusesAs es refusal.kind refusal.place
