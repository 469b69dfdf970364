use Rattle.cue_replica.proofs.Documents.{exact_language}
use Rattle.cue_replica.proofs.Sound.{sound}
use Rattle.cue_replica.proofs.language.sound_language.Goals as goal

pub returns-clause-sound : goal.returns-clause-sound
returns-clause-sound c = sound

pub returns-clause-documents : goal.returns-clause-documents
returns-clause-documents c = exact_language
