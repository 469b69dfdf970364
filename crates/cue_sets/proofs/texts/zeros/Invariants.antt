use Rattle.std.proofs.Common.{◌≡◌, replicate, string_bytes}
use Rattle.cue_sets.proofs.texts.zeros.Given as goal

abbrev pub invariant-loop-index : goal.invariant-loop-index
invariant-loop-index l = string_bytes l.text ≡ replicate l._index 0
