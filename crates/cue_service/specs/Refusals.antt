-- Why a piece is refused.
use Rattle.std.specs.Prelude.{◌≡◌, ◌⊎◌, ◌≤◌, ◌+◌, ◌^◌, ℕ, List, length}
use Rattle.std.specs.Str.{IsUtf8}
use Rattle.cue_lattice.specs.World.{Piece, text, state}
use Rattle.cue_lattice.specs.declared.refusal.Kind.TheVariants as kinds
use Rattle.cue_lattice.specs.declared.refusal.Refusal.{Refusal}
use Rattle.cue_replica.specs.Accepted.{IsAcceptable}
use Rattle.cue_replica.specs.Language.{language}

abbrev pub bytes_in : Piece → List ℕ
bytes_in (text bytes) = bytes
bytes_in (state bytes) = bytes

-- a fault of a text or of state bytes; bytes that are no UTF-8 are no text
abbrev pub IsFaultOf : Piece → Refusal → Type 0
IsFaultOf (text bytes) why =
    language.IsTextFault bytes why ⊎ ((IsUtf8 bytes → ⊥) × (why.kind ≡ kinds.BadCharacter))
IsFaultOf (state bytes) why = language.IsStateFault bytes why

-- memory ran out, or no site accepts the piece, for a fault of its own
abbrev pub IsRefusalOf : Piece → Refusal → Type 0
IsRefusalOf piece why =
    (why.kind ≡ kinds.Memory) ⊎ ((IsAcceptable piece → ⊥) × IsFaultOf piece why)

-- or it is too long for a journal
abbrev pub IsLeftOut : Piece → Refusal → Type 0
IsLeftOut piece why =
    IsRefusalOf piece why ⊎ ((2 ^ 32 ≤ length (bytes_in piece) + 1) × (why.kind ≡ kinds.TooLong))
