use Rattle.std.proofs.Common.{◌≡◌, length}
use Rattle.cue_scope.specs.Files.{entries_of}
use Rattle.cue_eval.specs.Inner.Finding.{AreOnce}
use Rattle.cue_eval.proofs.definitions.used_once.Given as goal

abbrev pub invariant-loop-number : goal.invariant-loop-number
invariant-loop-number l = (length l.once.items ≡ l.number) × AreOnce (entries_of l.resolved) l.once.items
