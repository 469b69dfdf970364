-- What a reader promises of the bytes in front of it.
use Rattle.std.specs.Prelude.{◌≡◌, ◌⊎◌, ℕ, ◌^◌, ◌<◌, ℤ, List, ◌++◌, length, take, drop, nat_lt}
use Rattle.std.specs.Prelude.{if◌then◌else◌, Option, Some, None}
use Rattle.std.specs.Int.{Width, byte_len, from_be_bytes}
use Rattle.std.specs.List.{AllByRecursion}
use Rattle.cue_lattice.specs.Path.{Step, label, index}
use Rattle.cue_lattice.specs.Scalar.{IsInteger}
pub use Rattle.cue_lattice.specs.Word.{IsWord}
use Rattle.cue_lattice.specs.declared.refusal.Kind.{Kind}
use Rattle.cue_lattice.specs.declared.refusal.Kind.TheVariants as kinds
use Rattle.cue_codec.specs.declared.version.Version.{Version}
use Rattle.cue_codec.specs.declared.version.Version.TheVariants as versions
use Rattle.cue_codec.specs.Parts.{Lengths}

-- the bytes of the value stand in front, and after them the rest
pub record ReadsItem {X : Type 0} (is_value : X → Type 0) (code : X → List ℕ) (item : X)
    (bytes rest : List ℕ) : Type 0 where
  pub value : is_value item
  pub parts : bytes ≡ code item ++ rest

-- the bytes of no value stand in front
abbrev pub ReadsNoItem : {X : Type 0} → (X → Type 0) → (X → List ℕ) → List ℕ → Type 0
ReadsNoItem {X} is_value code bytes =
    (item : X) (rest : List ℕ) → is_value item → bytes ≡ code item ++ rest → ⊥

-- a number, and the bytes after it
unfoldable pub number_at : Width → List ℕ → Option (ℕ × List ℕ)
number_at w bytes =
    if nat_lt (length bytes) (byte_len w)
    then None
    else Some (from_be_bytes w (take (byte_len w) bytes), drop (byte_len w) bytes)

-- memory ran out, or this is the reason why the bytes are no state
abbrev pub IsReadRefused : Kind → Type 0 → Type 0
IsReadRefused kind reason = (kind ≡ kinds.Memory) ⊎ ((kind ≡ kinds.NotState) × reason)

-- texts and labels have at most 65,535 bytes
abbrev pub IsShort : List ℕ → Type 0
IsShort text = length text < 2 ^ 16

-- a piece of integers of 64 bits
abbrev pub IsPieceBytes : ℤ × ℤ → Type 0
IsPieceBytes piece = IsInteger piece.0 × IsInteger piece.1

abbrev pub IsShortStep : Step → Type 0
IsShortStep (label text) = IsShort text
IsShortStep (index number) = Unit {0}

abbrev pub AreShortLabels : Option (List (List ℕ)) → Type 0
AreShortLabels None = Unit {0}
AreShortLabels (Some labels) = AllByRecursion IsShort labels

-- no greatest length, or one of 32 bits
abbrev pub IsMost : Option ℕ → Type 0
IsMost None = Unit {0}
IsMost (Some most) = most < 2 ^ 32

-- an index of 32 bits; where a version tells nothing of it, 0 stands for it
abbrev pub IsIndex : Version → ℕ → Type 0
IsIndex versions.First fixed = fixed ≡ 0
IsIndex versions.Second fixed = fixed < 2 ^ 32

-- a least length of 32 bits, a greatest one of as many, and an index
abbrev pub AreWideLengths : Version → Lengths → Type 0
AreWideLengths version lengths =
    (lengths.0 < 2 ^ 32) × IsMost lengths.1 × IsIndex version lengths.2

-- items that a count of 8 bytes can tell
abbrev pub AreCounted : {X : Type 0} → (X → Type 0) → List X → Type 0
AreCounted is_item items = AllByRecursion is_item items × (length items < 2 ^ 64)
