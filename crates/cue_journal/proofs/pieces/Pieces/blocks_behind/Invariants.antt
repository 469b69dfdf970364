use Rattle.std.proofs.Common.{◌≡◌, ◌++◌, drop}
use Rattle.cue_journal.specs.Lists.{blocks}
use Rattle.cue_journal.proofs.pieces.Pieces.blocks_behind.Given as goal

abbrev pub invariant-loop-at : goal.invariant-loop-at
invariant-loop-at l = blocks (drop l.place l.self.kept) ≡ l.body.items ++ blocks (drop l.at l.self.kept)
