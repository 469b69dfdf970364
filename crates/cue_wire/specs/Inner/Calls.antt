-- The request that a call is.
use Rattle.cue_wire.specs.declared.call.Call.{Call}
use Rattle.cue_wire.specs.declared.call.Call.TheVariants as calls
use Rattle.cue_wire.specs.Requests.{Request, text, state, ask}

abbrev pub request_of : Call → Request
request_of (calls.Text t) = text t.now
request_of (calls.State bytes) = state bytes.now
request_of (calls.Ask question) = ask question
