-- Texts that a site takes while they are read.
use Rattle.std.specs.Prelude.{◌≡◌, ◌⊎◌, ◌≤◌, ◌<◌, ◌+◌, ◌^◌, ◌==◌, ℕ, List, [], ◌∷◌, ◌++◌, length}
use Rattle.std.specs.Prelude.{Option, Some, None, false, map}
use Rattle.std.specs.List.{AllByRecursion, concat}
use Rattle.cue_lattice.specs.World.{text}
use Rattle.cue_replica.specs.Accepted.{text_limit}
use Rattle.cue_program.specs.Parts.{lines_of, IsPart}
use Rattle.cue_program.specs.Inputs.{IsInputRead}
use Rattle.cue_program.specs.Stops.{IsMemoryStop}
use Rattle.cue_program.specs.inner.Gathered.{IsGathered}
use Rattle.cue_program.specs.inner.Texts.{AreFirstParts, IsCountOf, IsTextRefused}
use Rattle.cue_program.specs.declared.input_reader.Input.{Input}
use Rattle.cue_program.specs.declared.stop.RunError.{RunError}
use Rattle.cue_program.specs.declared.stdin_splitter.StdinSplitter.{StdinSplitter}
use Rattle.cue_program.specs.declared.stdin_splitter.Texts.{Texts}

-- no line break is among the bytes
abbrev pub IsUnbroken : List ℕ → Type 0
IsUnbroken bytes = AllByRecursion (λ byte. (byte == 10) ≡ false) bytes

-- the bytes end with a line break, and have no other
abbrev pub IsLineEnd : List ℕ → Type 0
IsLineEnd bytes = (text : List ℕ) × IsUnbroken text × (bytes ≡ text ++ 10 ∷ [])

-- the bytes are whole lines, of which none separates, whatever follows them
pub record AreWholeLines (bytes : List ℕ) : Type 0 where
  pub lines : List (List ℕ)
  pub part : IsPart lines
  pub joined : concat lines ≡ bytes
  pub behind : (more : List ℕ) → lines_of (bytes ++ more) ≡ lines ++ lines_of more

-- The finished parts of the bytes were taken, which are so many; what follows them is kept.
pub record HasRead (taken : StdinSplitter) (bytes : List ℕ) : Type 0 where
  pub done : List (List ℕ)
  pub texts : IsGathered taken.gathered (map text done)
  pub counted : IsCountOf taken.number done
  pub rest : (more : List ℕ)
      → AreFirstParts (bytes ++ more) done
      (Some (taken.part.items ++ (taken.line.items ++ more)))
  pub whole : AreWholeLines taken.part.items

-- The same, where no more is kept of the next part than a text and a separating line may have.
pub record HasTaken (taken : StdinSplitter) (bytes : List ℕ) : Type 0 where
  pub read : HasRead taken bytes
  pub unbroken : IsUnbroken taken.line.items
  pub short : length taken.part.items + length taken.line.items ≤ text_limit + 4

-- whatever follows these bytes, the first part that is refused ends the run
abbrev pub IsRefusedWithin : List ℕ → RunError → Type 0
IsRefusedWithin bytes stop = (more : List ℕ) → IsTextRefused (bytes ++ more) stop

-- the same, or memory ran out
abbrev pub IsStopWithin : List ℕ → RunError → Type 0
IsStopWithin bytes stop = IsMemoryStop stop ⊎ IsRefusedWithin bytes stop

-- the texts in these bytes were taken, or one of them was refused
abbrev pub IsOpenOr : Option RunError → StdinSplitter → List ℕ → Type 0
IsOpenOr None taken bytes = HasTaken taken bytes
IsOpenOr (Some stop) taken bytes = IsRefusedWithin bytes stop

abbrev pub AreTaken : Texts → List ℕ → Type 0
AreTaken texts bytes = IsOpenOr texts.refused texts.taken bytes

-- a stream with these bytes was read, as many as a memory can hold: its texts were taken
abbrev pub IsStreamRead : Input Texts → List ℕ → Type 0
IsStreamRead input bytes = IsInputRead AreTaken input bytes × (length bytes < 2 ^ 64)
