use Rattle.cue_rounds.proofs.Steps.{changes_resting}
use Rattle.cue_rounds.proofs.asked.note_question.Goals as goal

pub returns-in-Err-Unaskable-clause-changes : goal.returns-in-Err-Unaskable-clause-changes
returns-in-Err-Unaskable-clause-changes g c = changes_resting g.S.Gathers.pulls_state g.S.Gathers.pulls_pieces g.S.Gathers.pulls_layers g.S.Gathers.rests _ _ c.note_news.ensures
