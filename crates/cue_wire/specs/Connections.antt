-- What happens on a connection while it is served.
use Rattle.std.specs.Prelude.{◌≡◌, ◌≢◌, ◌↔◌, ◌⊎◌, ◌<◌, ◌≤◌, ◌+◌, ℕ, List, [], ◌++◌, length}
use Rattle.std.specs.Prelude.{Option, Result, Ok, Err, IsTrue}
use Rattle.std.specs.Io.KnownBytes.{Appends, Consumes, IsAtEnd}
use Rattle.cue_lattice.specs.declared.refusal.Kind.{Kind}
use Rattle.cue_lattice.specs.declared.refusal.Kind.TheVariants as kinds
use Rattle.cue_replica.specs.Language.{Table}
use Rattle.cue_wire.specs.Frames.{IsUnfinished, NamesTooMany}
use Rattle.cue_wire.specs.Sessions.{Served}
use Rattle.cue_wire.specs.declared.connection.Ended.{Ended}

-- These bytes were read, and their frames up to a rest were served, one after the other. Of the
-- replies these bytes were written, and those were not.
pub record ServedPassage (before after : Table) : Type 0 where
  pub read : List ℕ
  pub rest : List ℕ
  pub written : List ℕ
  pub unwritten : List ℕ
  pub served : Served read rest before after [] (written ++ unwritten)

-- What the two devices of a connection tell at a moment: the bytes that the source gave and has
-- still to come, and those that the sink took, where these are known; and how often each was
-- called, and failed.
pub record Moment : Type 0 where
  pub given : Option (List ℕ)
  pub to_come : Option (List ℕ)
  pub taken : Option (List ℕ)
  pub reads : ℕ
  pub writes : ℕ
  pub failed_reads : ℕ
  pub failed_writes : ℕ

-- what these two tell, by what devices of their types do
abbrev pub moment_of : {S K : Type 0} → (S → Option (List ℕ)) → (S → Option (List ℕ))
    → (K → Option (List ℕ)) → (S → ℕ) → (K → ℕ) → (S → ℕ) → (K → ℕ) → S → K → Moment
moment_of given to_come taken reads writes failed_reads failed_writes source sink = record {
  given = given source;
  to_come = to_come source;
  taken = taken sink;
  reads = reads source;
  writes = writes sink;
  failed_reads = failed_reads source;
  failed_writes = failed_writes sink;
}

-- how many calls were made, and how many of them failed
abbrev pub calls : Moment → ℕ
calls at = at.reads + at.writes

abbrev pub failures : Moment → ℕ
failures at = at.failed_reads + at.failed_writes

-- What a source gave is what was read, and what a sink took is what was written, as far as they
-- tell it.
abbrev pub PassesBy : {start end : Table} → ServedPassage start end → Moment → Moment → Type 0
PassesBy passage before after =
    Appends before.given after.given passage.read
    × Consumes before.to_come after.to_come passage.read
    × Appends before.taken after.taken passage.written

-- Why serving stops before the end of the input: the next bytes name a length that no frame has, or
-- memory ran out, and then all replies are written; or writing them stops.
abbrev pub IsServingStop : Kind → List ℕ → List ℕ → Type 0 → Type 0
IsServingStop kind rest unwritten Stops =
    ((kind ≡ kinds.FrameTooLong) × NamesTooMany rest × (unwritten ≡ []))
    ⊎ ((kind ≡ kinds.Memory) × (unwritten ≡ []))
    ⊎ Stops

-- The turns are used, in as many calls, with at least as many bytes read as there were reads and
-- written as there were writes; or a device failed.
abbrev pub IsFault : Kind → List ℕ → List ℕ → ℕ → Moment → Moment → Type 0
IsFault kind read written turns before after =
    ((kind ≡ kinds.TurnsUsed) × (calls after ≡ calls before + turns)
    × (after.reads ≤ before.reads + length read)
    × (after.writes ≤ before.writes + length written))
    ⊎ ((kind ≡ kinds.Device) × (failures before < failures after))

-- How serving ends: at the end of the input, where all that was read is served but a frame that
-- isn't whole, and all replies are written; or before, and then memory ran out only where bytes
-- were read.
abbrev pub ServingEndsAt : {start end : Table} → Result Ended Kind → ServedPassage start end → ℕ → Moment
    → Moment → Type 0
ServingEndsAt (Ok ended) passage turns before after =
    IsAtEnd after.to_come × IsUnfinished passage.rest × (passage.unwritten ≡ [])
    × (IsTrue ended.whole ↔ passage.rest ≡ []) × (failures after ≡ failures before)
ServingEndsAt (Err kind) passage turns before after =
    IsServingStop kind passage.rest passage.unwritten
    (IsFault kind passage.read passage.written turns before after)
    × (kind ≡ kinds.Memory → passage.read ≢ [])
