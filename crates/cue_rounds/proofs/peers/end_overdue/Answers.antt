use Rattle.std.proofs.Common.{ap}
use Rattle.cue_rounds.proofs.Working.{works_same}
use Rattle.cue_rounds.proofs.peers.end_overdue.Goals as goal

pub returns-then-tired : goal.returns-then-tired
returns-then-tired g c =
    works_same g.T.ClientStream.written _ _ c.end_overdue-tired.ensures.connection (ap g.T.ClientStream.written c.end_overdue-tired.ensures.stream)

pub returns-else-tired : goal.returns-else-tired
returns-else-tired g c =
    works_same g.T.ClientStream.written _ _ c.end_overdue-tired.ensures.connection (ap g.T.ClientStream.written c.end_overdue-tired.ensures.stream)
