use Rattle.std.proofs.Common.{refl}
use Rattle.cue_rounds.proofs.Counting.{chain_inner, chain_between, may_hold}
use Rattle.cue_rounds.proofs.Working.{works_answered}
use Rattle.cue_rounds.proofs.peer.Peer.answer.Goals as goal

pub returns-then-is_busy-clause-calls : goal.returns-then-is_busy-clause-calls
returns-then-is_busy-clause-calls g c =
    let k = c.advance.ensures.calls in
    let q = c.advance.ensures.quiet in (
      k.0,
      chain_between g.S.Settle.answers k.0 _ _ _ _ c.begin.ensures.inner (chain_inner g.S.Settle.answers k.0 _ _ k.2) refl,
      works_answered g.T.ClientStream.written k.0 _ _ c.advance.ensures.config k.1 q.0 q.2 refl,
      tt,
    )

pub returns-clause-calls : goal.returns-clause-calls
returns-clause-calls g c =
    let k = c.advance.ensures.calls in
    let q = c.advance.ensures.quiet in (
      k.0,
      chain_between g.S.Settle.answers k.0 _ _ _ _ c.begin.ensures.inner (chain_inner g.S.Settle.answers k.0 _ _ k.2) c.take_wait.ensures.inner,
      works_answered g.T.ClientStream.written k.0 _ _ c.advance.ensures.config k.1 q.0 q.2 refl,
      may_hold g.S.Settle.answers k.0 _ _ _ _ k.2 c.begin.ensures.calls c.take_wait.ensures.one c.if-is_busy.ensures.1,
    )
