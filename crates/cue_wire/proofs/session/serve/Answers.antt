use Rattle.std.proofs.Common.{◌++◌, inl}
use Rattle.cue_wire.proofs.Streams.{served_none}
use Rattle.cue_wire.proofs.session.serve.Goals as goal

pub returns-in-Err : goal.returns-in-Err
returns-in-Err c =
    let stream = c.args.unread.now.items ++ c.args.piece.now in
    (stream, inl c.want_of.ensures, tt, served_none stream c.args.site.now c.args.out.now.items)
