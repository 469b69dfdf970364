-- Why a file of a journal was not read.
use Rattle.cue_journal.specs.declared.frames.Unread.{Unread}
use Rattle.cue_journal.specs.declared.frames.Unread.TheVariants.{Damaged, System}

-- it is damaged
abbrev pub IsDamage : Unread → Type 0
IsDamage (Damaged at) = Unit {0}
IsDamage (System error) = ⊥
