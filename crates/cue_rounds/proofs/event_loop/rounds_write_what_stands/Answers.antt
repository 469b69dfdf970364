use Rattle.cue_rounds.specs.Standing.{Changes}
use Rattle.cue_rounds.proofs.Sending as sending
use Rattle.cue_rounds.proofs.event_loop.rounds_write_what_stands.Goals as goal

pub returns : goal.returns
returns g c = sending.rounds_write_what_stands g.R.Client.ClientStream.written g.S.Settle.answers
    (Changes g.S.Gathers.pulls_state g.S.Gathers.pulls_pieces g.S.Gathers.pulls_layers g.S.Gathers.rests) g.S.Settle.settles
