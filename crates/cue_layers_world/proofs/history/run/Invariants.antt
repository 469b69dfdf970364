use Rattle.std.proofs.Common.{◌≡◌, ◌≤◌, take, length, vec_len, vec_capacity}
use Rattle.cue_layers_world.proofs.Runs.{IsSoFar}
use Rattle.cue_layers_world.proofs.history.run.Given as goal

abbrev pub invariant-loop-event : goal.invariant-loop-event
invariant-loop-event l = record {
  so_far : IsSoFar l.fn.count (take l.event-index l.events) l.sites.items l.messages.items l.outcomes.items;
  sent : vec_len l.messages ≤ l.event-index;
  count : vec_len l.outcomes ≡ l.event-index;
  message_room : length l.events ≤ vec_capacity l.messages;
  outcome_room : length l.events ≤ vec_capacity l.outcomes;
}
