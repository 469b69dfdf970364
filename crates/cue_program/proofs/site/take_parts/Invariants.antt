use Rattle.std.proofs.Common.{◌+◌, length, List, ℕ, Some}
use Rattle.std.specs.Option.{option_map, option_map_or}
use Rattle.cue_program.specs.inner.Texts.{HasTakenParts}
use Rattle.cue_program.proofs.site.take_parts.Given as goal

abbrev pub invariant-loop-rest : goal.invariant-loop-rest
invariant-loop-rest l =
    (all : List ℕ) → HasTakenParts all l.fn.site l.fn.number (Some l.fn.bytes)
    → HasTakenParts all l.site l.number (option_map (λ bytes. bytes.now) l.rest)

abbrev pub decreases-loop-rest : goal.decreases-loop-rest
decreases-loop-rest l = option_map_or (λ bytes. length bytes.now + 1) l.rest 0
