use Rattle.std.proofs.Common.{All, take}
use Rattle.cue_owners.specs.Patterns.{Fits}
use Rattle.cue_owners.proofs.grant.any_fits.Given as goal

-- none of the patterns so far fits
abbrev pub invariant-loop-pattern : goal.invariant-loop-pattern
invariant-loop-pattern l = All (λ pattern. ¬ Fits pattern.items l.target) (take l.pattern-index l.patterns)
