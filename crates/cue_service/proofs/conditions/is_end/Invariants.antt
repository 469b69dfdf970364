use Rattle.std.proofs.Common.{◌≡◌, drop}
use Rattle.cue_service.specs.Conditions.{ends_before}
use Rattle.cue_service.proofs.conditions.is_end.Given as goal

abbrev pub invariant-loop-byte : goal.invariant-loop-byte
invariant-loop-byte l = ends_before (drop l.byte-index l.behind) ≡ ends_before l.behind
