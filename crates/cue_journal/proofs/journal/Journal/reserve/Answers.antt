use Rattle.cue_journal.proofs.Files.{settled_sound, entries_left}
use Rattle.cue_journal.proofs.journal.Journal.reserve.Goals as goal

pub returns-then-not-was_open-clause-sound : goal.returns-then-not-was_open-clause-sound
returns-then-not-was_open-clause-sound g c = λ ready. settled_sound _ _ _ ready.settled

pub returns-then-not-was_open-clause-crash : goal.returns-then-not-was_open-clause-crash
returns-then-not-was_open-clause-crash g c = λ ready k left. entries_left _ _ _ ready.settled k left
