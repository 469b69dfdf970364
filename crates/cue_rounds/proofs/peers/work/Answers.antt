use Rattle.std.proofs.Common.{[], refl, ap}
use Rattle.cue_rounds.proofs.Steps.{changes_itself}
use Rattle.cue_rounds.proofs.Working.{works_itself, works_join, works_same, works_then}
use Rattle.cue_rounds.proofs.peers.work.Goals as goal

pub returns-then-not-is_ready : goal.returns-then-not-is_ready
returns-then-not-is_ready g c =
    ([], c.args.service.now.inner, refl, changes_itself g.S.Gathers.pulls_state g.S.Gathers.pulls_pieces g.S.Gathers.pulls_layers g.S.Gathers.rests _, works_itself g.T.ClientStream.written _)

pub returns-then-is_waiting : goal.returns-then-is_waiting
returns-then-is_waiting g c =
    ([], c.args.service.now.inner, refl, changes_itself g.S.Gathers.pulls_state g.S.Gathers.pulls_pieces g.S.Gathers.pulls_layers g.S.Gathers.rests _, c.receive.ensures)

pub returns : goal.returns
returns g c =
    let written = g.T.ClientStream.written in
    let k = c.answer-wait.ensures.calls in (
      k.0,
      c.answer-wait.new.service.inner,
      k.1,
      c.hold.ensures.changes,
      works_then written k.0 _ c.answer-wait.new.self _ (works_join written [] k.0 _ c.receive.new.self _ c.receive.ensures k.2)
          (works_same written _ _ c.hold.ensures.connection (ap written c.hold.ensures.stream)),
    )
