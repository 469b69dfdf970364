use Rattle.std.proofs.Common.{◌≡◌, ◌++◌, string_bytes}
use Rattle.std.specs.List.{flat_map}
use Rattle.cue_service.specs.Escapes.{escaped_char}
use Rattle.cue_service.proofs.escapes.add_escaped.Given as goal

abbrev pub invariant-loop-c : goal.invariant-loop-c
invariant-loop-c l = string_bytes l.page ≡ string_bytes l.initial.page ++ flat_map escaped_char l.yielded
