use Rattle.std.proofs.Common.{ℕ, List}
use Rattle.cue_lattice.specs.OneOf.{OneOf}
use Rattle.cue_policies.specs.Inner.Parts.{HasLabel, IsIn}
use Rattle.cue_policies.proofs.Gains.{Gains}
use Rattle.cue_policies.proofs.names.labels_of.Given as goal

-- the labels so far, and those of the parts that are left, are all
abbrev pub invariant-loop-part : goal.invariant-loop-part
invariant-loop-part l =
    (text : List ℕ) → Gains (IsIn text l.labels.items) (λ part. HasLabel l.patterns part text) l.parts l.part-index (OneOf (λ part. HasLabel l.patterns part text) l.parts)
