-- Why a call has no answer: an input is refused, or memory ran out for the answer.
use Rattle.std.specs.Prelude.{◌≡◌, ◌⊎◌, ℕ, ◌<◌, ◌≤◌, List, length}
use Rattle.std.specs.Str.{IsUtf8, IsValidUpTo}
use Rattle.cue_replica.specs.Accepted.{text_limit, refusal_at, memory}
use Rattle.cue_replica.specs.Language.{language}
use Rattle.cue_replica.specs.declared.Kind.TheVariants as kinds
use Rattle.cue_replica.specs.declared.Refusal.{Refusal}
use Rattle.cue_embed.specs.declared.outcome.CallError.{CallError}

-- Why bytes are no state: for their fault, or for want of memory, which hides none that is found
-- with no memory.
abbrev pub IsStateError : List ℕ → Refusal → Type 0
IsStateError bytes why =
    ((why ≡ memory) × (language.IsStateRefusedAtOnce bytes → ⊥)) ⊎ language.IsStateFault bytes why

-- Why bytes are no text: they are too many; or else they are not UTF-8, and the place is where the
-- part that is ends; or else for a fault of the text, or for want of memory, which hides none that
-- is found with no memory.
abbrev pub IsTextError : List ℕ → Refusal → Type 0
IsTextError bytes why =
    ((text_limit < length bytes) × (why ≡ refusal_at kinds.TooLong text_limit))
    ⊎ ((length bytes ≤ text_limit) × (IsUtf8 bytes → ⊥) × (why.kind ≡ kinds.BadCharacter)
    × IsValidUpTo bytes why.place)
    ⊎ ((length bytes ≤ text_limit) × IsUtf8 bytes
    × (((why ≡ memory) × (language.IsTextRefusedAtOnce bytes → ⊥)) ⊎ language.IsTextFault bytes why))

-- the input of this number is refused, and so
abbrev pub IsRefusedAt : ℕ → (Refusal → Type 0) → CallError → Type 0
IsRefusedAt number IsRefusal stop = (stop.input ≡ number) × IsRefusal stop.why

-- memory ran out for the answer, so that no input is named
abbrev pub IsMemoryError : CallError → Type 0
IsMemoryError stop = (stop.input ≡ 0) × (stop.why ≡ memory)

-- why a call over one state has no answer: the state is refused, or there is no memory for the
-- answer
abbrev pub IsStateStop : List ℕ → CallError → Type 0
IsStateStop bytes stop =
    IsRefusedAt 1 (IsStateError bytes) stop ⊎ (language.IsState bytes × IsMemoryError stop)

-- Why a call over a state and a second input has no answer: the state is refused; or it is taken
-- and the second input is refused; or both are taken and there is no memory for the answer.
abbrev pub IsStopOfTwo : List ℕ → (Refusal → Type 0) → Type 0 → CallError → Type 0
IsStopOfTwo bytes IsRefusal IsTaken stop =
    IsRefusedAt 1 (IsStateError bytes) stop
    ⊎ (language.IsState bytes × (IsRefusedAt 2 IsRefusal stop ⊎ (IsTaken × IsMemoryError stop)))

-- over a state and a text
abbrev pub IsSubmitStop : List ℕ → List ℕ → CallError → Type 0
IsSubmitStop bytes more = IsStopOfTwo bytes (IsTextError more) (language.IsLegal more)

-- over two states
abbrev pub IsMergeError : List ℕ → List ℕ → CallError → Type 0
IsMergeError bytes other = IsStopOfTwo bytes (IsStateError other) (language.IsState other)
