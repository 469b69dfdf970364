use Rattle.std.proofs.Common.{◌+◌, length}
use Rattle.std.specs.Option.{option_map, option_map_or}
use Rattle.cue_program.proofs.Requests.{Sends}
use Rattle.cue_program.proofs.request.requests_of_texts.Given as goal

abbrev pub invariant-loop-rest : goal.invariant-loop-rest
invariant-loop-rest l = Sends l.fn.bytes l.requests.items (option_map (λ bytes. bytes.now) l.rest)

abbrev pub decreases-loop-rest : goal.decreases-loop-rest
decreases-loop-rest l = option_map_or (λ bytes. length bytes.now + 1) l.rest 0
