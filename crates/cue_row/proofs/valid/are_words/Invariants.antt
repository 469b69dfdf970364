use Rattle.std.proofs.Common.{take}
use Rattle.cue_row.specs.ValidRow.{AreWords}
use Rattle.cue_row.proofs.valid.are_words.Given as goal

abbrev pub invariant-loop-text : goal.invariant-loop-text
invariant-loop-text l = AreWords (take l.text-index l.texts)
