-- What ends a run before it has an answer.
use Rattle.std.specs.Prelude.{◌≡◌, ◌⊎◌, ℕ, ◌+◌, ◌<◌, ◌≤◌, List, Option, IfSome, length}
use Rattle.cue_replica.specs.declared.Kind.TheVariants as kinds
use Rattle.cue_replica.specs.declared.Refusal.{Refusal}
use Rattle.cue_program.specs.declared.stop.RunError.{RunError}
use Rattle.cue_program.specs.declared.stop.RunError.TheVariants as stops

-- a device failed
abbrev pub IsDeviceStop : RunError → Type 0
IsDeviceStop stop = stop ≡ stops.Device

-- memory ran out, of no single input
abbrev pub IsMemoryStop : RunError → Type 0
IsMemoryStop stop = stop ≡ stops.Refused kinds.Memory

-- the end of an input was not found in as many reads as it may take
abbrev pub IsTurnsUsedStop : RunError → Type 0
IsTurnsUsedStop stop = stop ≡ stops.Refused kinds.TurnsUsed

-- the input of this number is refused for this reason
abbrev pub IsRefusedAs : Refusal → ℕ → RunError → Type 0
IsRefusedAs why input stop = stop ≡ stops.RefusedInput why input

-- how many reads one input may take, with the one that finds its end
abbrev pub read_limit : ℕ
read_limit = 65536

-- how many bytes one read asks for, and one write of a state hands on at most
abbrev pub piece_size : ℕ
piece_size = 65536

-- an input is too long to be read, where it is known: each read that is not the last gives a byte
abbrev pub IsLongStop : Option (List ℕ) → Type 0
IsLongStop known = IfSome known (λ all. read_limit ≤ length all)

-- Why an input could not be read of which these bytes are known: a device failed, it wanted too
-- many reads, or memory ran out.
abbrev pub IsUnreadable : Option (List ℕ) → RunError → Type 0
IsUnreadable known stop = IsDeviceStop stop ⊎ (IsTurnsUsedStop stop × IsLongStop known) ⊎ IsMemoryStop stop

-- Why a device could not be read to its end that had these bytes, by its counts of calls and of
-- failures before and after: it failed; or all calls that an input may take were made, and none
-- came to its end; or memory ran out.
abbrev pub IsReadFault : Option (List ℕ) → ℕ → ℕ → ℕ → ℕ → RunError → Type 0
IsReadFault known calls failures calls' failures' stop =
    (IsDeviceStop stop × (failures < failures'))
    ⊎ (IsTurnsUsedStop stop × (calls' ≡ calls + read_limit) × IsLongStop known)
    ⊎ IsMemoryStop stop

-- Why a file could not be read: it could not be opened; or it was, and could not be read to its
-- end, by what the file tells of its bytes, its calls and its failures.
abbrev pub IsFileFault : {F : Type 0} → (F → Type 0) → Type 0 → (F → Option (List ℕ)) → (F → ℕ)
    → (F → ℕ) → RunError → Type 0
IsFileFault {F} IsOpened IsClosed to_come called failed stop =
    (IsDeviceStop stop × IsClosed)
    ⊎ ((file file' : F) × IsOpened file × IsReadFault (to_come file) (called file) (failed file)
    (called file') (failed file') stop)
