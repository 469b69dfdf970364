use Rattle.std.proofs.Common.{length, map}
use Rattle.cue_journal.proofs.Reading.{IsRead}
use Rattle.cue_journal.proofs.blocks.read_pieces.Given as goal

abbrev pub invariant-loop-piece : goal.invariant-loop-piece
invariant-loop-piece l = IsRead l.bytes l.rest (map (λ v. v.items) l.pieces.items)

abbrev pub decreases-loop-piece : goal.decreases-loop-piece
decreases-loop-piece l = length l.rest
