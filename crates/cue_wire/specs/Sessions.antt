-- What a session makes of its stream.
use Rattle.std.specs.Prelude.{◌≡◌, ℕ, List, ◌++◌, Result, Ok, Err, ⊤, Bool, true, false}
use Rattle.cue_lattice.specs.declared.refusal.Kind.{Kind}
use Rattle.cue_replica.specs.Language.{Table}
use Rattle.cue_wire.specs.Frames.{AreFrames}
use Rattle.cue_wire.specs.Serving.{ServesAll}

-- A session reads on, and keeps the rest of its stream, the bytes behind the last whole frame; or
-- it has ended.
pub data Standing : Type 0 where
  reading : List ℕ → Standing
  ended : Standing

abbrev pub session_standing : Bool → List ℕ → Standing
session_standing true rest = ended
session_standing false rest = reading rest

abbrev pub IsSessionReading : Standing → Type 0
IsSessionReading (reading rest) = ⊤
IsSessionReading ended = ⊥

-- All whole frames of the stream up to this rest were served, one after the other, and their
-- replies added to what was to be written.
pub record Served (stream rest : List ℕ) (before after : Table) (old new : List ℕ) : Type 0 where
  pub bodies : List (List ℕ)
  pub replies : List ℕ
  pub frames : AreFrames stream bodies rest
  pub tables : ServesAll bodies before after replies
  pub added : new ≡ old ++ replies

-- The session keeps the rest, or has ended.
abbrev pub standing_after : Result (Unit {0}) Kind → List ℕ → Standing
standing_after (Ok u) rest = reading rest
standing_after (Err kind) rest = ended
