use Rattle.cue_rounds.proofs.Steps.{changes_join}
use Rattle.cue_rounds.proofs.asked.begin.Goals as goal

pub returns-clause-changes : goal.returns-clause-changes
returns-clause-changes g c =
    changes_join g.S.Gathers.pulls_state g.S.Gathers.pulls_pieces g.S.Gathers.pulls_layers g.S.Gathers.rests _ c.own_tag-own.new.service _ c.own_tag-own.ensures c.note_question.ensures.changes
