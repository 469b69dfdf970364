use Rattle.cue_lattice.specs.OneOf.{OneOf}
use Rattle.cue_policies.proofs.Gains.{Gains}
use Rattle.cue_row.specs.Steps.{step_of}
use Rattle.cue_why.specs.declared.part.WrittenPart.{WrittenPart}
use Rattle.cue_why.specs.Inner.Parts.{IsBelow, IsIn}
use Rattle.cue_why.proofs.below.parts_below.Given as goal

-- what was found, and what the parts that are left have, is all
abbrev pub invariant-loop-part : goal.invariant-loop-part
invariant-loop-part l =
    (next : WrittenPart)
    → Gains (IsIn next l.found.items) (λ part. IsBelow l.kind (step_of l.step) part next) l.parts l.part-index (OneOf (λ part. IsBelow l.kind (step_of l.step) part next) l.parts)
