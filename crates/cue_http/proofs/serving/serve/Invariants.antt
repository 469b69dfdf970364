use Rattle.std.proofs.Common.{◌≡◌, true}
use Rattle.cue_http.proofs.serving.serve.Given as goal

abbrev pub invariant-loop : goal.invariant-loop
invariant-loop g l = l.state.stands ≡ true

abbrev pub invariant-loop-event : goal.invariant-loop-event
invariant-loop-event g l = l.state.stands ≡ true
