-- The numbers of levels.
use Rattle.std.specs.Prelude.{ℕ}
use Rattle.cue_row.specs.declared.level.Level.{Level}
use Rattle.cue_row.specs.declared.level.Level.TheVariants.{Optional, Required, Given}

-- 0 for an optional field, 1 for a required one, 2 for a field that is there
abbrev pub level_of : Level → ℕ
level_of Optional = 0
level_of Required = 1
level_of Given = 2
