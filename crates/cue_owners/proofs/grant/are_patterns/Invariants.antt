use Rattle.std.proofs.Common.{All, map, take}
use Rattle.cue_owners.specs.Patterns.{IsPattern}
use Rattle.cue_owners.proofs.grant.are_patterns.Given as goal

-- the words so far are patterns
abbrev pub invariant-loop-word : goal.invariant-loop-word
invariant-loop-word l = All IsPattern (map (λ word. word.now) (take l.word-index l.words))
