-- Why a word has no answer.
use Rattle.std.specs.Prelude.{◌≡◌, ◌⊎◌}
use Rattle.cue_lattice.specs.declared.refusal.Kind.TheVariants as kinds
use Rattle.cue_net.specs.declared.halt.NetError.{NetError}
use Rattle.cue_net.specs.declared.halt.NetError.TheVariants as halts

-- a device failed, or what came is none of a site's replies
abbrev pub IsDeviceNetError : NetError → Type 0
IsDeviceNetError halt = halt ≡ halts.Device

-- memory ran out
abbrev pub IsMemoryNetError : NetError → Type 0
IsMemoryNetError halt = halt ≡ halts.Refused kinds.Memory

-- no turn is left
abbrev pub IsTurnsUsedNetError : NetError → Type 0
IsTurnsUsedNetError halt = halt ≡ halts.Refused kinds.TurnsUsed

-- a frame can't hold an input
abbrev pub IsTooLongNetError : NetError → Type 0
IsTooLongNetError halt = halt ≡ halts.Refused kinds.FrameTooLong

abbrev pub IsDeviceOrMemory : NetError → Type 0
IsDeviceOrMemory halt = IsDeviceNetError halt ⊎ IsMemoryNetError halt
