use Rattle.cue_codec.proofs.SameEntries.{entries_told}
use Rattle.cue_codec.proofs.spelling.law_of_entries.Goals as goal

pub returns : goal.returns
returns c = entries_told
