use Rattle.cue_rounds.proofs.Steps.{changes_itself, changes_pulled}
use Rattle.cue_rounds.proofs.asked.give.Goals as goal

pub returns-in-Whole-clause-changes : goal.returns-in-Whole-clause-changes
returns-in-Whole-clause-changes g c = changes_pulled g.S.Gathers.pulls_state g.S.Gathers.pulls_pieces g.S.Gathers.pulls_layers g.S.Gathers.rests _ _ _ _ _ c.pull.ensures.1

pub returns-in-Same-clause-changes : goal.returns-in-Same-clause-changes
returns-in-Same-clause-changes g c = changes_itself g.S.Gathers.pulls_state g.S.Gathers.pulls_pieces g.S.Gathers.pulls_layers g.S.Gathers.rests _

pub returns-in-Gone-clause-changes : goal.returns-in-Gone-clause-changes
returns-in-Gone-clause-changes g c = changes_itself g.S.Gathers.pulls_state g.S.Gathers.pulls_pieces g.S.Gathers.pulls_layers g.S.Gathers.rests _

pub returns-in-Layerless-clause-changes : goal.returns-in-Layerless-clause-changes
returns-in-Layerless-clause-changes g c = changes_itself g.S.Gathers.pulls_state g.S.Gathers.pulls_pieces g.S.Gathers.pulls_layers g.S.Gathers.rests _

pub returns-in-Impatient-clause-changes : goal.returns-in-Impatient-clause-changes
returns-in-Impatient-clause-changes g c = changes_itself g.S.Gathers.pulls_state g.S.Gathers.pulls_pieces g.S.Gathers.pulls_layers g.S.Gathers.rests _

pub returns-in-Failed-clause-changes : goal.returns-in-Failed-clause-changes
returns-in-Failed-clause-changes g c = changes_itself g.S.Gathers.pulls_state g.S.Gathers.pulls_pieces g.S.Gathers.pulls_layers g.S.Gathers.rests _
