use Rattle.std.proofs.Common.{take}
use Rattle.cue_layers.proofs.Pieces.{HasAccepted}
use Rattle.cue_layers.proofs.piece.unify_pieces.Given as goal

abbrev pub invariant-loop-i : goal.invariant-loop-i
invariant-loop-i l = HasAccepted l.content (take l.i l.pieces)
