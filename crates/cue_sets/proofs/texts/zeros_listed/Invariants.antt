use Rattle.std.proofs.Common.{◌≡◌, ◌<◌, ℕ, [], replicate, get_or}
use Rattle.cue_sets.proofs.texts.zeros_listed.Given as goal

abbrev pub invariant-loop-count : goal.invariant-loop-count
invariant-loop-count l = (k : ℕ) → k < l.count → get_or l.texts k [] ≡ replicate k 0
