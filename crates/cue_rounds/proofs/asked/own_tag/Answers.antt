use Rattle.cue_rounds.proofs.Steps.{changes_resting}
use Rattle.cue_rounds.proofs.asked.own_tag.Goals as goal

pub returns : goal.returns
returns g c = changes_resting g.S.Gathers.pulls_state g.S.Gathers.pulls_pieces g.S.Gathers.pulls_layers g.S.Gathers.rests _ _ c.tag.ensures
