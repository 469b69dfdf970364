use Rattle.cue_lattice.specs.OneOf.{OneOf}
use Rattle.cue_lattice.specs.Question.{Question}
use Rattle.cue_policies.proofs.Gains.{Gains}
use Rattle.cue_row.specs.Row.{RowRefusesQuestion}
use Rattle.cue_why.specs.Inner.Parts.{HoldsPart}
use Rattle.cue_why.proofs.trail.row_of.Given as goal

abbrev pub invariant-loop-part : goal.invariant-loop-part
invariant-loop-part l =
    (question : Question) → Gains (RowRefusesQuestion l.row question) (λ part. HoldsPart l.kind part question) l.parts l.part-index (OneOf (λ part. HoldsPart l.kind part question) l.parts)
