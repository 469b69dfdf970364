use Rattle.cue_row.proofs.Begun.{begins_more, begins_on, on_err}
use Rattle.cue_codec.proofs.writing.put_each_piece.Goals as goal

pub returns-in_err-put_piece-clause-kept : goal.returns-in_err-put_piece-clause-kept
returns-in_err-put_piece-clause-kept c =
    on_err c.from_residual.result (begins_on _ _ _ (begins_more _ _ _ c.loop-piece.invariant) c.in_err-put_piece.ensures.kept)
