use Rattle.std.proofs.Common.{[], inl, subst, ◌∙◌}
use Rattle.cue_rounds.specs.declared.peers.Peers.{Peers}
use Rattle.cue_rounds.specs.declared.rounds.InRound.{InRound}
use Rattle.cue_rounds.specs.Standing.{Each, Works, Changes, IsClosed}
use Rattle.cue_rounds.proofs.Places.{are_itself, closed_itself}
use Rattle.cue_rounds.proofs.Steps.{changes_itself, changes_once}
use Rattle.cue_rounds.proofs.Working.{round_at_work, round_of_lost, round_of_kept}
use Rattle.cue_rounds.proofs.event_loop.Loop.round.Goals as goal

pub returns-then-not-settle-clause-err : goal.returns-then-not-settle-clause-err
returns-then-not-settle-clause-err g c =
    let written = g.R.Client.ClientStream.written in
    let answers = g.S.Settle.answers in
    let changes = Changes g.S.Gathers.pulls_state g.S.Gathers.pulls_pieces g.S.Gathers.pulls_layers g.S.Gathers.rests in
    let once = changes_once g.S.Gathers.pulls_state g.S.Gathers.pulls_pieces g.S.Gathers.pulls_layers g.S.Gathers.rests in
    let places = c.count.ensures.peers ∙ c.ask.ensures.peers in
    let overdue = subst (λ (p : Peers _). Each (Works written) [] p.places.items c.end_overdue.new.self.places.items) places c.end_overdue.ensures in
    let asked = subst (λ (s : InRound _). changes s.inner c.ask.new.self.service.inner) c.take.ensures.service c.ask.ensures.changes in
    let worked = round_at_work written answers changes _ c.note_news.new.self c.ask.new.self.service.inner c.count.new.self.service.inner
    c.receive.new.service.inner c.answer_waiting.new.service.inner
    c.take.new.self.peers.places.items c.end_overdue.new.self.places.items c.receive.new.self.places.items c.answer_waiting.new.self.places.items
    (once _ _ (inl c.note_news.ensures)) asked c.count.ensures.changes overdue c.receive.ensures c.answer_waiting.ensures in
    round_of_lost written answers changes g.S.Settle.settles _ c.answer_waiting.new.service.inner _ _ _ c.take.new.self.peers.places.items _
    c.take.ensures.opens worked c.if-not-settle.ensures (once _ _ (inl c.fault.ensures)) (are_itself IsClosed closed_itself _)

pub returns-clause-ok : goal.returns-clause-ok
returns-clause-ok g c =
    let written = g.R.Client.ClientStream.written in
    let answers = g.S.Settle.answers in
    let changes = Changes g.S.Gathers.pulls_state g.S.Gathers.pulls_pieces g.S.Gathers.pulls_layers g.S.Gathers.rests in
    let once = changes_once g.S.Gathers.pulls_state g.S.Gathers.pulls_pieces g.S.Gathers.pulls_layers g.S.Gathers.rests in
    let places = c.count.ensures.peers ∙ c.ask.ensures.peers in
    let overdue = subst (λ (p : Peers _). Each (Works written) [] p.places.items c.end_overdue.new.self.places.items) places c.end_overdue.ensures in
    let asked = subst (λ (s : InRound _). changes s.inner c.ask.new.self.service.inner) c.take.ensures.service c.ask.ensures.changes in
    let worked = round_at_work written answers changes _ c.note_news.new.self c.ask.new.self.service.inner c.count.new.self.service.inner
    c.receive.new.service.inner c.answer_waiting.new.service.inner
    c.take.new.self.peers.places.items c.end_overdue.new.self.places.items c.receive.new.self.places.items c.answer_waiting.new.self.places.items
    (once _ _ (inl c.note_news.ensures)) asked c.count.ensures.changes overdue c.receive.ensures c.answer_waiting.ensures in
    round_of_kept written answers changes g.S.Settle.settles _ c.answer_waiting.new.service.inner _ _ _ c.take.new.self.peers.places.items _ c.send.new.self.places.items _
    c.take.ensures.opens worked c.if-not-settle.ensures (changes_itself g.S.Gathers.pulls_state g.S.Gathers.pulls_pieces g.S.Gathers.pulls_layers g.S.Gathers.rests _) c.send.ensures c.close.ensures
