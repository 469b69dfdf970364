-- Where answers come from: what is written at a place refuses all that its kind does, so that a
-- place is of one kind.
use Rattle.std.specs.Prelude.{◌≡◌, ◌⊎◌, ◌<◌, ◌≤◌, ℕ, Bool, true, false, List, [], ◌∷◌, ◌++◌}
use Rattle.std.specs.Prelude.{length}
use Rattle.cue_lattice.specs.Path.{Path, label, index}
use Rattle.cue_lattice.specs.declared.scalar.Scalar.{Scalar}
use Rattle.cue_lattice.specs.Question as questions
use Rattle.cue_lattice.specs.Question.{Question, may_be, usual, allows, level_at_most}
use Rattle.cue_lattice.specs.Question.{length_at_most, length_at_least}
use Rattle.cue_syntax.specs.declared.tree.Mark.{Mark}
use Rattle.cue_scope.specs.Core.{Core, Members}
use Rattle.cue_scope.specs.Limits.{depth}
use Rattle.cue_eval.specs.Pairs.{pair}
use Rattle.cue_eval.specs.Places.{ScalarRefuses, StructRefuses, ListRefuses, MarkRefuses}
use Rattle.cue_eval.specs.Places.{ClosingRefuses}
use Rattle.cue_eval.specs.Refuses.{Refuses}

pub data LiteralSource : Type 0 where
  scalar : Core → LiteralSource
  a_struct : LiteralSource
  a_list : ℕ → Bool → LiteralSource
  mark : Mark → LiteralSource
  -- struct literals that are closed
  closing : List Members → LiteralSource

abbrev pub SourceRefuses : LiteralSource → Question → Type 0
SourceRefuses (scalar c) question = ScalarRefuses (pair c) question
SourceRefuses a_struct question = StructRefuses question
SourceRefuses (a_list count goes_on) question = ListRefuses count goes_on question
SourceRefuses (mark m) question = MarkRefuses m question
SourceRefuses (closing written) question = ClosingRefuses written question ⊎ StructRefuses question

-- the question is refused by a source, all of whose refusals hold
pub record HasOrigin (refuses : Question → Type 0) (question : Question) : Type 0 where
  pub source : LiteralSource
  pub asked : SourceRefuses source question
  pub all : (other : Question) → SourceRefuses source other → refuses other

abbrev pub ComesFromSources : Type 0
ComesFromSources =
    (c : Core) (path : Path) (question : Question) → Refuses c path question
    → HasOrigin (Refuses c path) question

-- what a struct refuses, or a list of so many elements, is refused here
abbrev pub IsStruct : (Question → Type 0) → Type 0
IsStruct refuses = (question : Question) → StructRefuses question → refuses question

abbrev pub IsListOrigin : (Question → Type 0) → ℕ → Bool → Type 0
IsListOrigin refuses count goes_on =
    (question : Question) → ListRefuses count goes_on question → refuses question

-- labels are left out where nothing but a struct may stand
abbrev pub LabelsAreOfStructs : Type 0
LabelsAreOfStructs =
    (c : Core) (path : Path) (l : List ℕ) → Refuses c path (allows l) → IsStruct (Refuses c path)

-- lengths are refused where nothing but a list may stand; a greatest length is that of a list
-- without `...`, which is its least length too
abbrev pub LengthsAreOfLists : Type 0
LengthsAreOfLists =
    ((c : Core) (path : Path) (n : ℕ) → Refuses c path (length_at_most n)
    → (count : ℕ) × (goes_on : Bool) × (n < count) × IsListOrigin (Refuses c path) count goes_on)
    × ((c : Core) (path : Path) (n : ℕ) → Refuses c path (length_at_least n)
    → (count : ℕ) × (count < n) × IsListOrigin (Refuses c path) count false)

-- fields stand below structs, and elements below lists that are long enough or go on
abbrev pub FieldsAreOfStructs : Type 0
FieldsAreOfStructs = (c : Core) (path : Path) (l : List ℕ) (rest : Path) (question : Question) →
    Refuses c (path ++ label l ∷ rest) question → IsStruct (Refuses c path)

abbrev pub ElementsAreOfLists : Type 0
ElementsAreOfLists = (c : Core) (path : Path) (i : ℕ) (rest : Path) (question : Question) →
    Refuses c (path ++ index i ∷ rest) question
    → (count : ℕ) × (goes_on : Bool) × ((i < count) ⊎ (goes_on ≡ true))
    × IsListOrigin (Refuses c path) count goes_on

-- elements that no list at their place writes one by one are alike: their indexes are lengths that
-- are not too small
abbrev pub FurtherElementsAreAlike : Type 0
FurtherElementsAreAlike =
    (c : Core) (path : Path) (i j : ℕ) (rest : Path) (question : Question) →
    ¬ Refuses c path (length_at_most i) → ¬ Refuses c path (length_at_most j)
    → Refuses c (path ++ index i ∷ rest) question → Refuses c (path ++ index j ∷ rest) question

-- the path ends in a label
abbrev pub EndsInLabel : Path → Type 0
EndsInLabel [] = ⊥
EndsInLabel (label l ∷ []) = Unit {0}
EndsInLabel (index i ∷ []) = ⊥
EndsInLabel (step ∷ next ∷ path) = EndsInLabel (next ∷ path)

-- levels above 0 are those of fields, and none is above 2
abbrev pub LevelsAreOfFields : Type 0
LevelsAreOfFields =
    (c : Core) (path : Path) (k : ℕ) → Refuses c path (level_at_most k) → EndsInLabel path × (k < 2)

-- what is refused stands at a path with no more steps than the expression is deep
abbrev pub PathsAreWithinDepth : Type 0
PathsAreWithinDepth =
    (c : Core) (path : Path) (question : Question) → Refuses c path question → length path ≤ depth c

-- What may not stand isn't usual.
abbrev pub UsualIsWithin : Type 0
UsualIsWithin =
    (c : Core) (path : Path) (x : Scalar) → Refuses c path (may_be x) → Refuses c path (usual x)

abbrev pub IsLevelOrigin : Question → Type 0
IsLevelOrigin (level_at_most k) = Unit {0}
IsLevelOrigin _ = ⊥

-- Where anything but a level is refused, nothing but scalars, nothing but a struct or nothing but a
-- list may stand.
abbrev pub PlacesAreOfKinds : Type 0
PlacesAreOfKinds = (c : Core) (path : Path) (question : Question) → Refuses c path question →
    IsLevelOrigin question
    ⊎ ((Refuses c path questions.struct × Refuses c path questions.list)
    ⊎ (IsStruct (Refuses c path)
    ⊎ ((count : ℕ) × (goes_on : Bool) × IsListOrigin (Refuses c path) count goes_on)))
