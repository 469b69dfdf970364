use Rattle.std.proofs.Common.{length}
use Rattle.cue_journal.specs.Inner.Pieces.{AreSound}
use Rattle.cue_journal.specs.Listed.{GivesUpBeyond}
use Rattle.cue_journal.proofs.pieces.Pieces.shrink_to.Given as goal

abbrev pub invariant-loop-self : goal.invariant-loop-self
invariant-loop-self l =
    GivesUpBeyond l.fn.most l.fn.self (record { run = l.self-inside.run; given_up = l.self-inside.given_up; kept = l.self-inside.kept.items })
    × AreSound l.self-inside.given_up l.self-inside.size l.self-inside.kept.items

abbrev pub decreases-loop-self : goal.decreases-loop-self
decreases-loop-self l = length l.self-inside.kept.items
