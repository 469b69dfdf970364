use Rattle.cue_rounds.proofs.Sending as sending
use Rattle.cue_rounds.proofs.event_loop.writes_what_stands.Goals as goal

pub returns : goal.returns
returns g c = sending.writes_what_stands g.R.Client.ClientStream.written
