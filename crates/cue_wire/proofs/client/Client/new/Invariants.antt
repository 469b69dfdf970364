use Rattle.std.proofs.Common.{◌≡◌, take, flat_map, All}
use Rattle.cue_wire.specs.Clients.{request_frame, IsSendable}
use Rattle.cue_wire.proofs.client.Client.new.Given as goal

-- the frames of the requests so far
abbrev pub invariant-loop-request : goal.invariant-loop-request
invariant-loop-request l = record {
  made : l.outgoing.items ≡ flat_map request_frame (take l.request-index l.requests);
  fits : All IsSendable (take l.request-index l.requests);
}
