-- Lemmas for functions that write one text behind another.
use Rattle.cue_device.proofs.Texts.{appends_none, appends_then, begins_none, begins_now, begins_later}

pub ruleset turns = (appends_then, begins_now, begins_later)

-- where one text is written, or nothing
pub ruleset one_or_none = (appends_none, begins_none)
