use Rattle.cue_rounds.proofs.Steps.{changes_resting}
use Rattle.cue_rounds.proofs.asked.Asked.note_failure.Goals as goal

pub returns-clause-changes : goal.returns-clause-changes
returns-clause-changes g c = changes_resting g.S.Gathers.pulls_state g.S.Gathers.pulls_pieces g.S.Gathers.pulls_layers g.S.Gathers.rests _ _ c.note_news.ensures
