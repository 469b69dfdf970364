-- How a text is kept: what a `Text` is read as, and what each has.
use Rattle.std.specs.Prelude.{◌≡◌, ◌≤◌, ◌-◌, ℕ, List, take, drop, replicate, string_bytes}
use Rattle.std.specs.Str.{IsUtf8}
use Rattle.cue_lattice.specs.declared.text.TextStorage.{TextStorage}
use Rattle.cue_lattice.specs.declared.text.TextStorage.TheVariants.{Short, Long}

-- the bytes that are kept
abbrev pub kept_bytes : TextStorage → List ℕ
kept_bytes (Short len room) = take len room
kept_bytes (Long string) = string_bytes string.value

-- the length is one of the room, and behind so many bytes are zeros
abbrev pub IsPadded : ℕ → List ℕ → Type 0
IsPadded len room = (len ≤ 22) × (drop len room ≡ replicate (22 - len) 0)

-- the bytes that are kept are a text
abbrev pub IsSoundText : TextStorage → Type 0
IsSoundText (Short len room) = IsPadded len room × IsUtf8 (take len room)
IsSoundText (Long string) = Unit {0}
