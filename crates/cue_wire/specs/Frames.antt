-- Frames: a length in four bytes, from the highest to the lowest, and so many bytes, the body.
use Rattle.std.specs.Prelude.{◌≡◌, ◌≤◌, ◌<◌, ◌⊎◌, ℕ, ◌+◌, List, ◌++◌, length, take, All}
use Rattle.std.specs.Prelude.{flat_map, Result, Ok, Err}
use Rattle.std.specs.Int.{w32, to_be_bytes, from_be_bytes}
use Rattle.cue_lattice.specs.declared.refusal.Kind.{Kind}
use Rattle.cue_lattice.specs.declared.refusal.Kind.TheVariants as kinds

-- the most bytes of a body
abbrev pub frame_limit : ℕ
frame_limit = 16777216

abbrev pub IsBody : List ℕ → Type 0
IsBody body = length body ≤ frame_limit

-- a body with its length before it
abbrev pub frame_of : List ℕ → List ℕ
frame_of body = to_be_bytes w32 (length body) ++ body

-- the length that the first four bytes name
unfoldable pub named_length : List ℕ → ℕ
named_length bytes = from_be_bytes w32 (take 4 bytes)

-- The bytes begin a frame that isn't whole.
abbrev pub IsUnfinished : List ℕ → Type 0
IsUnfinished bytes =
    (length bytes < 4)
    ⊎ ((named_length bytes ≤ frame_limit) × (length bytes < 4 + named_length bytes))

-- So many bytes more end the length at the front, or where it is known the frame.
abbrev pub LacksBytes : List ℕ → ℕ → Type 0
LacksBytes bytes count =
    ((length bytes < 4) × (length bytes + count ≡ 4))
    ⊎ ((4 ≤ length bytes) × (length bytes + count ≡ 4 + named_length bytes))

-- The bytes begin with a length that no frame has.
abbrev pub NamesTooMany : List ℕ → Type 0
NamesTooMany bytes = (4 ≤ length bytes) × (frame_limit < named_length bytes)

-- The stream is the frames of these bodies, and then the rest.
pub record AreFrames (stream : List ℕ) (bodies : List (List ℕ)) (rest : List ℕ) : Type 0 where
  pub whole : stream ≡ flat_map frame_of bodies ++ rest
  pub short : All IsBody bodies

-- Behind the whole frames of the stream stands a length that no frame has.
abbrev pub HasFault : List ℕ → Type 0
HasFault stream =
    (bodies : List (List ℕ)) × (rest : List ℕ) × AreFrames stream bodies rest × NamesTooMany rest

-- Why reading stops at the rest of a stream: no frame there is whole; or no frame has the length
-- there; or memory ran out.
abbrev pub StopsAtFrame : {T : Type 0} → Result T Kind → List ℕ → Type 0
StopsAtFrame (Ok value) rest = IsUnfinished rest
StopsAtFrame (Err kind) rest =
    (kind ≡ kinds.Memory) ⊎ ((kind ≡ kinds.FrameTooLong) × NamesTooMany rest)
