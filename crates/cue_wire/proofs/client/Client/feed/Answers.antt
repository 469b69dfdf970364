use Rattle.std.proofs.Common.{sym}
use Rattle.cue_wire.proofs.Exchanges.{told_fault}
use Rattle.cue_wire.proofs.client.Client.feed.Goals as goal

pub returns-then-is_err-clause-long : goal.returns-then-is_err-clause-long
returns-then-is_err-clause-long c =
    told_fault c.take_piece-fed.result c.self.inside.outgoing.items c.args.piece.now c.self.inside.unread.items c.take_piece-fed.ensures.0 c.self.inside.replies.items c.take_piece-fed.new.replies.items
    c.args.self.now (sym c.self.view_is) c.take_piece-fed.ensures.1 c.take_piece-fed.ensures.4
