use Rattle.std.proofs.Common.{◌⊎◌, ℕ, List}
use Rattle.cue_policies.specs.Inner.Parts.{HasLabel, IsIn}
use Rattle.cue_policies.proofs.Gains.{Left}
use Rattle.cue_policies.proofs.Gathering.{IsLabelOf}
use Rattle.cue_policies.proofs.names.add_labels.Given as goal

-- the labels so far, and those that are left, are all
abbrev pub invariant-loop-label : goal.invariant-loop-label
invariant-loop-label l =
    (text : List ℕ) → Left (IsIn text l.labels.items) (IsLabelOf l.patterns l.part.role text) l.label-iterator (IsIn text l.fn.labels.items ⊎ HasLabel l.patterns l.part text)
