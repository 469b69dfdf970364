use Rattle.std.proofs.Common.{◌++◌, [], inl, sym, ◌∙◌, append-nil}
use Rattle.cue_wire.proofs.Exchanges.{gains_none}
use Rattle.cue_wire.proofs.client.take_piece.Goals as goal

pub returns-in-Err : goal.returns-in-Err
returns-in-Err c =
    let stream = c.args.unread.now.items ++ c.args.piece.now in
    (stream, inl c.want_of.ensures, tt, ([], c.in-Err.ensures.err ∙ sym (append-nil c.args.unread.now.items)), gains_none stream c.args.replies.now.items)
