use Rattle.std.proofs.Common.{◌≡◌, ◌++◌, ℕ, List}
use Rattle.http_server.specs.Connection.{config_of, history}
use Rattle.cue_rounds.proofs.peer.feed.Given as goal

abbrev pub invariant-loop : goal.invariant-loop
invariant-loop l = record {
  config : config_of l.connection ≡ config_of l.fn.connection;
  calls : (history l.connection).calls ≡ (history l.fn.connection).calls;
  sent : (history l.connection).sent ≡ (history l.fn.connection).sent;
  received : (more : List ℕ) × (l.fn.bytes ≡ more ++ l.rest) × ((history l.connection).received ≡ (history l.fn.connection).received ++ more);
}
