-- A row's question is one of the questions of a place, and each of these is asked by a row's
-- question.
use Rattle.cue_lattice.specs.Question as places
use Rattle.cue_row.specs.declared.question.Question.{Question}
use Rattle.cue_row.specs.declared.question.Question.TheVariants.{MayBe, Usual, Struct, List, Allows}
use Rattle.cue_row.specs.declared.question.Question.TheVariants.{LevelAtMost, LengthAtMost}
use Rattle.cue_row.specs.declared.question.Question.TheVariants.{LengthAtLeast}

-- the question that a question of the program stands for
abbrev pub question_of : Question → places.Question
question_of (MayBe scalar) = places.may_be scalar
question_of (Usual scalar) = places.usual scalar
question_of Struct = places.struct
question_of List = places.list
question_of (Allows label) = places.allows label
question_of (LevelAtMost level) = places.level_at_most level
question_of (LengthAtMost length) = places.length_at_most length
question_of (LengthAtLeast length) = places.length_at_least length

-- the question of the program that stands for a question
abbrev pub asked_by_question : places.Question → Question
asked_by_question (places.may_be scalar) = MayBe scalar
asked_by_question (places.usual scalar) = Usual scalar
asked_by_question places.struct = Struct
asked_by_question places.list = List
asked_by_question (places.allows label) = Allows label
asked_by_question (places.level_at_most level) = LevelAtMost level
asked_by_question (places.length_at_most length) = LengthAtMost length
asked_by_question (places.length_at_least length) = LengthAtLeast length
