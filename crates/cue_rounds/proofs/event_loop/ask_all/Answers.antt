use Rattle.cue_rounds.proofs.Steps.{changes_itself, changes_join}
use Rattle.cue_rounds.proofs.event_loop.ask_all.Goals as goal

pub loop-source-init : goal.loop-source-init
loop-source-init g c = changes_itself g.S.Gathers.pulls_state g.S.Gathers.pulls_pieces g.S.Gathers.pulls_layers g.S.Gathers.rests _

pub loop-source-preserved : goal.loop-source-preserved
loop-source-preserved g c =
    let join = changes_join g.S.Gathers.pulls_state g.S.Gathers.pulls_pieces g.S.Gathers.pulls_layers g.S.Gathers.rests in
    join _ c.loop-source.service _ c.loop-source.invariant
    (join _ c.ask_commons.new.service _ c.ask_commons.ensures.changes c.ask_layers.ensures.changes)
