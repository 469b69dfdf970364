-- In how many ways a stream is read: in one, however it is cut.
use Rattle.std.specs.Prelude.{◌≡◌, ◌⊎◌, ℕ, List, ◌++◌}
use Rattle.cue_replica.specs.Language.{Table}
use Rattle.cue_wire.specs.Frames.{AreFrames, IsUnfinished, NamesTooMany}
use Rattle.cue_wire.specs.Serving.{ServesAll}

-- no whole frame stands at the front
abbrev pub IsLast : List ℕ → Type 0
IsLast rest = IsUnfinished rest ⊎ NamesTooMany rest

pub record AreReadings : Type 0 where
  -- the whole frames of a stream, and the rest behind them, are told by the stream
  pub once : (stream : List ℕ) (bodies others : List (List ℕ)) (rest other : List ℕ)
      → AreFrames stream bodies rest → IsLast rest → AreFrames stream others other → IsLast other
      → (bodies ≡ others) × (rest ≡ other)
  -- a stream and then a piece of it are read as both at once
  pub pieces : (stream piece : List ℕ) (bodies more : List (List ℕ)) (rest last : List ℕ)
      → AreFrames stream bodies rest → AreFrames (rest ++ piece) more last
      → AreFrames (stream ++ piece) (bodies ++ more) last
  -- and so are their frames served
  pub served : (bodies more : List (List ℕ)) (before between after : Table)
      (replies others : List ℕ) → ServesAll bodies before between replies
      → ServesAll more between after others
      → ServesAll (bodies ++ more) before after (replies ++ others)
