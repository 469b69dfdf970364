-- What scalars, structs, lists and marks refuse at their own place.
use Rattle.std.specs.Prelude.{◌≡◌, ◌<◌, ℕ, Bool, true, false, List, [], ◌∷◌}
use Rattle.cue_lattice.specs.Path.{Path}
use Rattle.cue_lattice.specs.Question as questions
use Rattle.cue_lattice.specs.Question.{Question, may_be, usual, allows, level_at_most}
use Rattle.cue_lattice.specs.Question.{length_at_most, length_at_least}
use Rattle.cue_lattice.specs.Scalar.{IsScalar}
use Rattle.cue_scalars.specs.Pairs.{ScalarPair, default_or_value}
use Rattle.cue_syntax.specs.declared.tree.Mark.{Mark}
use Rattle.cue_syntax.specs.declared.tree.Mark.TheVariants.{Regular, Optional, Required}
use Rattle.cue_scope.specs.Core.{Members}
use Rattle.cue_eval.specs.Literals.{LeaveOut}

-- at the place itself, and nothing below it
abbrev pub IsAtPlace : (Question → Type 0) → Path → Question → Type 0
IsAtPlace refuses [] question = refuses question
IsAtPlace refuses (step ∷ path) question = ⊥

-- where scalars stand: every scalar but those of the value, as usual all but those of the default
-- (of the value where there is none), and that a struct or a list stands
abbrev pub ScalarRefuses : ScalarPair → Question → Type 0
ScalarRefuses pair (may_be scalar) = IsScalar scalar × (pair.value scalar ≡ false)
ScalarRefuses pair (usual scalar) = IsScalar scalar × (default_or_value pair scalar ≡ false)
ScalarRefuses pair questions.struct = Unit {0}
ScalarRefuses pair questions.list = Unit {0}
ScalarRefuses pair _ = ⊥

-- where a struct stands: that a scalar or a list does
abbrev pub StructRefuses : Question → Type 0
StructRefuses (may_be scalar) = IsScalar scalar
StructRefuses (usual scalar) = IsScalar scalar
StructRefuses questions.list = Unit {0}
StructRefuses _ = ⊥

-- a list of so many elements has no greatest length below their number; without `...` it has none
-- above it
abbrev pub IsAboveLength : ℕ → Bool → ℕ → Type 0
IsAboveLength count true n = ⊥
IsAboveLength count false n = count < n

-- where a list of so many elements stands: that a scalar or a struct does, and other lengths, but
-- greater ones only where it doesn't end in `...`
abbrev pub ListRefuses : ℕ → Bool → Question → Type 0
ListRefuses count goes_on (may_be scalar) = IsScalar scalar
ListRefuses count goes_on (usual scalar) = IsScalar scalar
ListRefuses count goes_on questions.struct = Unit {0}
ListRefuses count goes_on (length_at_most n) = n < count
ListRefuses count goes_on (length_at_least n) = IsAboveLength count goes_on n
ListRefuses count goes_on _ = ⊥

-- the level of a field by its mark: 0 with `?`, 1 with `!`, 2 with none
abbrev pub level_of_mark : Mark → ℕ
level_of_mark Optional = 0
level_of_mark Required = 1
level_of_mark Regular = 2

-- a field's mark refuses the levels below its own
abbrev pub MarkRefuses : Mark → Question → Type 0
MarkRefuses mark (level_at_most k) = k < level_of_mark mark
MarkRefuses mark _ = ⊥

-- where these struct literals are closed: the labels that they leave out
abbrev pub ClosingRefuses : List Members → Question → Type 0
ClosingRefuses written (allows l) = LeaveOut written l
ClosingRefuses written _ = ⊥
