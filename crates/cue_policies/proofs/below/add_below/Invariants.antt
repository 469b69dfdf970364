use Rattle.std.proofs.Common.{◌⊎◌}
use Rattle.cue_policies.specs.Patterns.{MatchesPattern, IsPatternOf}
use Rattle.cue_policies.specs.declared.part.Role.TheVariants as roles
use Rattle.cue_policies.specs.declared.part.ViewPart.{ViewPart}
use Rattle.cue_policies.specs.Inner.Parts.{HasPartAt, IsBelow, IsIn, kind_of}
use Rattle.cue_policies.proofs.Gains.{Gains}
use Rattle.cue_policies.proofs.below.add_below.Given as goal

-- what was found, and what the patterns that are left have, is all
abbrev pub invariant-loop-pattern : goal.invariant-loop-pattern
invariant-loop-pattern l =
    (next : ViewPart)
    → Gains (IsIn next l.found.items) (λ own. IsPatternOf (kind_of l.part.role) own × MatchesPattern own l.label × HasPartAt l.part roles.Pattern own next) l.patterns l.pattern-index
    (IsIn next l.fn.found.items ⊎ IsBelow l.patterns l.label l.part next)
