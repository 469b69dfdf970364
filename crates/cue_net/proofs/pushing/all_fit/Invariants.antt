use Rattle.std.proofs.Common.{All, take}
use Rattle.cue_wire.specs.Clients.{IsSendable}
use Rattle.cue_net.proofs.pushing.all_fit.Given as goal

-- those so far fit
abbrev pub invariant-loop-request : goal.invariant-loop-request
invariant-loop-request l = record {
  fits : All IsSendable (take l.request-index l.requests);
}
