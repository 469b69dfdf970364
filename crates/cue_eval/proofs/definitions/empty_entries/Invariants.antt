use Rattle.std.proofs.Common.{◌≡◌, length}
use Rattle.cue_eval.proofs.definitions.empty_entries.Given as goal

abbrev pub invariant-loop : goal.invariant-loop
invariant-loop g l = length l.all.items ≡ l.counter
