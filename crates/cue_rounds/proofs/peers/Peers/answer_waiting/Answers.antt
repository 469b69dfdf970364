use Rattle.cue_rounds.proofs.Steps.{changes_resting}
use Rattle.cue_rounds.proofs.Working.{at_work_itself, at_work_changes, at_work_join}
use Rattle.cue_rounds.proofs.peers.Peers.answer_waiting.Goals as goal

pub returns-then-self-eq0 : goal.returns-then-self-eq0
returns-then-self-eq0 g c = at_work_itself g.T.ClientStream.written g.S.Settle.answers _ _ c.args.self.now.places.items

pub returns-then-edition-self : goal.returns-then-edition-self
returns-then-edition-self g c =
    at_work_changes g.T.ClientStream.written g.S.Settle.answers _ _ _ c.args.self.now.places.items
    (changes_resting g.S.Gathers.pulls_state g.S.Gathers.pulls_pieces g.S.Gathers.pulls_layers g.S.Gathers.rests _ _ c.edition-edition.ensures)

pub returns : goal.returns
returns g c =
    at_work_join g.T.ClientStream.written g.S.Settle.answers _ _ c.edition-edition.new.self _ _ c.args.self.now.places.items _
    (at_work_changes g.T.ClientStream.written g.S.Settle.answers _ _ _ c.args.self.now.places.items (changes_resting g.S.Gathers.pulls_state g.S.Gathers.pulls_pieces g.S.Gathers.pulls_layers g.S.Gathers.rests _ _ c.edition-edition.ensures))
    c.ask_again.ensures
