use Rattle.cue_layers.specs.Refusals.{piece_of_refusal}
use Rattle.cue_layers.proofs.Pieces.{none_accepted, more_accepted, first_fault, memory_apart}
use Rattle.cue_layers.proofs.piece.unify_pieces.Goals as goal

pub loop-i-init : goal.loop-i-init
loop-i-init c = none_accepted c.new-content.result c.new-content.ensures

pub returns-in-Err-clause-refused : goal.returns-in-Err-clause-refused
returns-in-Err-clause-refused c =
    let p = c.index-pieces-i.result in
    first_fault c.loop-i.content c.args.pieces.now c.loop-i.i p c.in-Err.why c.piece_refusal.result c.loop-i-test.true c.index-pieces-i.is c.loop-i.invariant
    c.in-Err.ensures.refused c.piece_refusal.ensures.memory c.piece_refusal.ensures.other (memory_apart (piece_of_refusal p))

pub loop-i-preserved : goal.loop-i-preserved
loop-i-preserved c =
    more_accepted c.loop-i.content c.accept.new.replica c.args.pieces.now c.loop-i.i c.index-pieces-i.result c.loop-i-test.true c.index-pieces-i.is c.loop-i.invariant
    c.in_default.ensures.acceptable c.in_default.ensures.ok c.accept.ensures.valid
