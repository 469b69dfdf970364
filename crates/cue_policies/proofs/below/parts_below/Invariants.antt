use Rattle.cue_lattice.specs.OneOf.{OneOf}
use Rattle.cue_policies.specs.declared.part.ViewPart.{ViewPart}
use Rattle.cue_policies.specs.Inner.Parts.{IsBelow, IsIn}
use Rattle.cue_policies.proofs.Gains.{Gains}
use Rattle.cue_policies.proofs.below.parts_below.Given as goal

-- what was found, and what the parts that are left have, is all
abbrev pub invariant-loop-part : goal.invariant-loop-part
invariant-loop-part l =
    (next : ViewPart)
    → Gains (IsIn next l.found.items) (λ part. IsBelow l.patterns l.label part next) l.parts l.part-index (OneOf (λ part. IsBelow l.patterns l.label part next) l.parts)
