use Rattle.cue_rounds.proofs.Steps.{changes_join}
use Rattle.cue_rounds.proofs.source.ask_commons.Goals as goal

pub returns-clause-changes : goal.returns-clause-changes
returns-clause-changes g c =
    changes_join g.S.Gathers.pulls_state g.S.Gathers.pulls_pieces g.S.Gathers.pulls_layers g.S.Gathers.rests _ c.step.new.service _ c.step.ensures.changes c.begin.ensures.changes
