use Rattle.std.proofs.Common.{◌≡◌, true, drop}
use Rattle.cue_service.specs.Conditions.{begins_behind}
use Rattle.cue_service.proofs.conditions.is_begin.Given as goal

abbrev pub invariant-loop-byte : goal.invariant-loop-byte
invariant-loop-byte l = begins_behind l.begins (drop l.byte-index l.before) ≡ begins_behind true l.before
