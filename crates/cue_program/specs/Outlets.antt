-- What is written to a stream, and whether a call of it failed.
use Rattle.std.specs.Prelude.{◌≡◌, ◌⊎◌, ℕ, List, ◌++◌, Option, Bool, true}
use Rattle.std.specs.Io.KnownBytes.{Appends, Keeps}
use Rattle.cue_program.specs.Stops.{IsDeviceStop, IsMemoryStop}
use Rattle.cue_program.specs.declared.output.Output.{Output}
use Rattle.cue_program.specs.declared.stop.RunError.{RunError}

-- what is written to, and whether a call of it failed
abbrev pub outlet_inner : {W : Type 0} → Output W → W
outlet_inner outlet = outlet.inner

abbrev pub outlet_failed : {W : Type 0} → Output W → Bool
outlet_failed outlet = outlet.failed

-- What became of a stream: the bytes that it held before and holds after, where these are known,
-- and whether a call of it had failed before, and has after.
pub record Passage : Type 0 where
  pub before : Option (List ℕ)
  pub after : Option (List ℕ)
  pub had_failed : Bool
  pub has_failed : Bool

-- what became of this one, of which these are the known bytes
abbrev pub passage_of : {W : Type 0} → (W → Option (List ℕ)) → Output W → Output W → Passage
passage_of contents old new = record {
  before = contents old.inner;
  after = contents new.inner;
  had_failed = old.failed;
  has_failed = new.failed;
}

-- the bytes were added
abbrev pub AddsBytes : Passage → List ℕ → Type 0
AddsBytes passage bytes = Appends passage.before passage.after bytes

-- nothing was added, and no call failed that had not
abbrev pub IsOutputUntouched : Passage → Type 0
IsOutputUntouched passage =
    Keeps passage.before passage.after × (passage.has_failed ≡ passage.had_failed)

-- some bytes in front of these were added
abbrev pub HasBegun : Passage → List ℕ → Type 0
HasBegun passage bytes =
    (front back : List ℕ) × (bytes ≡ front ++ back) × AddsBytes passage front

-- the same, and a call failed
abbrev pub BreaksAfter : Passage → List ℕ → Type 0
BreaksAfter passage bytes = HasBegun passage bytes × (passage.has_failed ≡ true)

-- the bytes were added, or some in front and a call failed
abbrev pub IsSaid : Passage → List ℕ → Type 0
IsSaid passage bytes = AddsBytes passage bytes ⊎ BreaksAfter passage bytes

-- Why not all of these bytes were added, which are made while they are written: a call failed; or
-- memory ran out.
abbrev pub IsWriteFailed : Passage → List ℕ → RunError → Type 0
IsWriteFailed passage bytes stop =
    (IsDeviceStop stop × BreaksAfter passage bytes) ⊎ (IsMemoryStop stop × HasBegun passage bytes)
