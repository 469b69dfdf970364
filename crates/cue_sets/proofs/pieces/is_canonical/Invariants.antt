use Rattle.std.proofs.Common.{◌↔◌, length}
use Rattle.cue_sets.specs.Pieces.{AscendsFrom, IsCanonical}
use Rattle.cue_sets.proofs.pieces.is_canonical.Given as goal

-- the pieces are in the one form where those that are left ascend from here
abbrev pub invariant-loop-first : goal.invariant-loop-first
invariant-loop-first l = AscendsFrom l.from l.rest ↔ IsCanonical l.fn.pieces

abbrev pub decreases-loop-first : goal.decreases-loop-first
decreases-loop-first l = length l.rest
