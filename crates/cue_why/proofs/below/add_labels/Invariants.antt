use Rattle.std.proofs.Common.{◌⊎◌}
use Rattle.cue_lattice.specs.Path.{label}
use Rattle.cue_policies.specs.declared.kind.LayerKind.TheVariants.{Policy}
use Rattle.cue_policies.proofs.Gains.{Left}
use Rattle.cue_why.specs.declared.part.WrittenPart.{WrittenPart}
use Rattle.cue_why.specs.Inner.Parts.{IsBelow, IsIn}
use Rattle.cue_why.proofs.Parts.{IsLabelBelow}
use Rattle.cue_why.proofs.below.add_labels.Given as goal

-- what was found, and what is at the labels that are left, is all
abbrev pub invariant-loop-own : goal.invariant-loop-own
invariant-loop-own l =
    (next : WrittenPart) → Left (IsIn next l.found.items) (IsLabelBelow l.label l.part next) l.own-iterator (IsIn next l.fn.found.items ⊎ IsBelow Policy (label l.label) l.part next)
