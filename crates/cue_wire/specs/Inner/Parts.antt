-- How one piece of a connection is served, in parts, and its replies are written.
use Rattle.std.specs.Prelude.{◌≡◌, ◌⊎◌, ◌<◌, ◌≤◌, ◌+◌, ℕ, List, [], ◌++◌, length}
use Rattle.std.specs.Prelude.{Option, Result, Ok, Err}
use Rattle.std.specs.Io.KnownBytes.{Appends}
use Rattle.cue_lattice.specs.declared.refusal.Kind.{Kind}
use Rattle.cue_lattice.specs.declared.refusal.Kind.TheVariants as kinds
use Rattle.cue_replica.specs.Language.{Table}
use Rattle.cue_wire.specs.Connections.{IsServingStop}
use Rattle.cue_wire.specs.Frames.{IsUnfinished}
use Rattle.cue_wire.specs.Sessions.{Standing, reading, Served}

-- No more turns were used than these bytes are and than calls failed, both together.
abbrev pub Moves : ℕ → ℕ → ℕ → ℕ → List ℕ → Type 0
Moves left left' failed failed' bytes = left + failed ≤ left' + failed' + length bytes

-- Why writing stops: no turn is left, and nothing failed; or the device failed.
abbrev pub IsWriteFault : Kind → ℕ → ℕ → ℕ → Type 0
IsWriteFault kind left failed failed' =
    ((kind ≡ kinds.TurnsUsed) × (left ≡ 0) × (failed' ≡ failed))
    ⊎ ((kind ≡ kinds.Device) × (failed < failed'))

-- How serving one piece ends: the session keeps the rest and all replies are written, or it stops.
abbrev pub RepliesAt :
    Result (Unit {0}) Kind → List ℕ → List ℕ → Standing → ℕ → ℕ → ℕ → Type 0
RepliesAt (Ok u) rest unwritten session left failed failed' =
    (session ≡ reading rest) × IsUnfinished rest × (unwritten ≡ [])
RepliesAt (Err kind) rest unwritten session left failed failed' =
    IsServingStop kind rest unwritten (IsWriteFault kind left failed failed')

-- The frames of the stream up to a rest were served, and of their replies these were written.
pub record RepliesWritten (result : Result (Unit {0}) Kind) (stream : List ℕ) (session : Standing)
    (before after : Table) (taken taken' : Option (List ℕ)) (left left' failed failed' : ℕ)
    : Type 0 where
  pub rest : List ℕ
  pub written : List ℕ
  pub unwritten : List ℕ
  pub served : Served stream rest before after [] (written ++ unwritten)
  pub wrote : Appends taken taken' written
  pub moves : Moves left left' failed failed' written
  pub ends : RepliesAt result rest unwritten session left' failed failed'

-- The frames of the stream up to a rest were served, which the session keeps. Of their replies some
-- were written, and these are not yet.
pub record IsPartServed (stream : List ℕ) (session : Standing) (before now : Table)
    (pending : List ℕ) (taken taken' : Option (List ℕ)) (left left' : ℕ) : Type 0 where
  pub rest : List ℕ
  pub written : List ℕ
  pub keeps : session ≡ reading rest
  pub unfinished : IsUnfinished rest
  pub served : Served stream rest before now [] (written ++ pending)
  pub wrote : Appends taken taken' written
  pub moves : left ≤ left' + length written

-- So much of the stream was served, or serving stopped.
abbrev pub ServesOrStops : Result (Unit {0}) Kind → List ℕ → Standing → Table → Table → List ℕ
    → Option (List ℕ) → Option (List ℕ) → ℕ → ℕ → ℕ → ℕ → Type 0
ServesOrStops (Ok u) stream session before now pending taken taken' left left' failed failed' =
    IsPartServed stream session before now pending taken taken' left left'
ServesOrStops (Err kind) stream session before now pending taken taken' left left' failed failed' =
    RepliesWritten (Err kind) stream session before now taken taken' left left' failed failed'
