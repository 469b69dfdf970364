use Rattle.std.proofs.Common.{◌↔◌, drop}
use Rattle.cue_policies.specs.Inner.Forms.{ArePlain}
use Rattle.cue_policies.proofs.misplaced.pattern_among.Given as goal

-- what is left decides the others
abbrev pub invariant-loop-label : goal.invariant-loop-label
invariant-loop-label l = ArePlain l.labels ↔ ArePlain (drop l.label-index l.labels)
