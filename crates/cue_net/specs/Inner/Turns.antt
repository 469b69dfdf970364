-- What turns are used for, and why a read or a write has no bytes.
use Rattle.std.specs.Prelude.{◌≡◌, ◌⊎◌, ◌<◌, ◌≤◌, ℕ, ◌+◌, List, Option, Result, Ok, Err}
use Rattle.std.specs.Io.KnownBytes.{IsAtEnd}
use Rattle.cue_net.specs.declared.halt.NetError.{NetError}
use Rattle.cue_net.specs.Halts.{IsDeviceNetError, IsTurnsUsedNetError}

-- No more turns were used than so many, but where a device failed.
abbrev pub Moves : {T : Type 0} → Result T NetError → ℕ → ℕ → ℕ → Type 0
Moves (Ok value) left left' count = left ≤ left' + count
Moves (Err halt) left left' count = IsDeviceNetError halt ⊎ (left ≤ left' + count)

-- No turn is left, and nothing was called; or the device failed.
abbrev pub IsWriteHalt : NetError → ℕ → ℕ → ℕ → Type 0
IsWriteHalt halt left failed failed' =
    (IsTurnsUsedNetError halt × (left ≡ 0) × (failed' ≡ failed))
    ⊎ (IsDeviceNetError halt × (failed < failed'))

-- so it is with a read, or it found the end
abbrev pub IsReadHalt : NetError → ℕ → Option (List ℕ) → ℕ → ℕ → Type 0
IsReadHalt halt left to_come failed failed' =
    (IsTurnsUsedNetError halt × (left ≡ 0) × (failed' ≡ failed))
    ⊎ (IsDeviceNetError halt × ((failed < failed') ⊎ (IsAtEnd to_come × (failed' ≡ failed))))
