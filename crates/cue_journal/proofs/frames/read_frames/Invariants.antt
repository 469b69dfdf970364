use Rattle.std.proofs.Common.{length, map}
use Rattle.cue_journal.proofs.Files.{IsScanning}
use Rattle.cue_journal.proofs.frames.read_frames.Given as goal

abbrev pub invariant-loop-batch : goal.invariant-loop-batch
invariant-loop-batch l = IsScanning l.bytes l.rest (map (λ v. v.items) l.entries.items)

abbrev pub decreases-loop-batch : goal.decreases-loop-batch
decreases-loop-batch l = length l.rest
