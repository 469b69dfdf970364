-- Reading from a device whose bytes are known or not.
use Rattle.std.specs.Prelude.{◌≡◌, ◌⊎◌, ◌<◌, ◌≤◌, ◌+◌, ◌-◌, ◌*◌, ℕ, List, ◌++◌, Option, IfSome}
use Rattle.std.specs.Prelude.{length}
use Rattle.cue_program.specs.Files.{AreAll}
use Rattle.cue_program.specs.Stops.{piece_size, read_limit, IsDeviceStop, IsMemoryStop, IsTurnsUsedStop}
use Rattle.cue_program.specs.declared.stop.RunError.{RunError}

-- what is kept is kept of all bytes that the device had, where they are known, and of no more than
-- so many reads give
abbrev pub IsAllRead : (List ℕ → Type 0) → Option (List ℕ) → Type 0
IsAllRead IsKept known =
    (all : List ℕ) × AreAll known all × IsKept all × (length all ≤ read_limit * piece_size)

-- the same of the bytes behind these, of which one read gave some
abbrev pub IsRestRead : (List ℕ → Type 0) → List ℕ → Option (List ℕ) → Type 0
IsRestRead IsKept front known =
    (rest : List ℕ) × AreAll known rest × IsKept (front ++ rest)
    × (length rest ≤ (read_limit - 1) * piece_size)

-- why the rest of an input could not be read of which one read was made
abbrev pub IsRestFault : Option (List ℕ) → ℕ → ℕ → ℕ → ℕ → RunError → Type 0
IsRestFault known calls failures calls' failures' stop =
    (IsDeviceStop stop × (failures < failures'))
    ⊎ (IsTurnsUsedStop stop × (calls' + 1 ≡ calls + read_limit)
    × IfSome known (λ rest. read_limit ≤ length rest + 1))
    ⊎ IsMemoryStop stop
