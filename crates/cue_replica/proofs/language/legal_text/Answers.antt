use Rattle.cue_replica.proofs.Example.{legal_text}
use Rattle.cue_replica.proofs.language.legal_text.Goals as goal

pub returns : goal.returns
returns c = legal_text
