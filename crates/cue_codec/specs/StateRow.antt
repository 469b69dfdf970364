-- What the parts of a row may be in a state of a version: sets and labels in their one form, texts
-- in UTF-8 of at most 65,535 bytes, lists that a count of 8 bytes can tell.
use Rattle.std.specs.Prelude.{ℕ, ℤ, ◌<◌, ◌≤◌, ◌^◌, Bool, List, length, Option, Some, None}
use Rattle.std.specs.List.{AllByRecursion}
use Rattle.cue_lattice.specs.Limits.{step_limit}
use Rattle.cue_lattice.specs.Path.{label, index}
use Rattle.cue_sets.specs.Pieces.{IsCanonical}
use Rattle.cue_sets.specs.Texts.{IsAscending}
use Rattle.cue_scalars.specs.declared.scalar_set.ScalarSet.{ScalarSet}
use Rattle.cue_codec.specs.declared.version.Version.{Version}
use Rattle.cue_codec.specs.Entry.{StateStep, at, to_rest, StatePath, CanHoldStep}
use Rattle.cue_codec.specs.Reading.{IsWord, AreCounted}

abbrev pub IsStateIntegers : List (ℤ × ℤ) → Type 0
IsStateIntegers pieces = IsCanonical pieces × (length pieces < 2 ^ 64)

abbrev pub AreStateTexts : List (List ℕ) → Type 0
AreStateTexts texts = IsAscending texts × AreCounted IsWord texts

abbrev pub IsStateTexts : Bool × List (List ℕ) → Type 0
IsStateTexts set = AreStateTexts set.1

pub record IsStateSet (set : ScalarSet) : Type 0 where
  pub ints : IsStateIntegers set.ints
  pub texts : IsStateTexts set.texts

abbrev pub AreStateLabels : Option (List (List ℕ)) → Type 0
AreStateLabels None = Unit {0}
AreStateLabels (Some labels) = AreStateTexts labels

-- a label in UTF-8, an index of 32 bits, or the rest, which the first version does not tell
abbrev pub IsStateStep : Version → StateStep → Type 0
IsStateStep version (at (label text)) = IsWord text
IsStateStep version (at (index number)) = number < 2 ^ 32
IsStateStep version to_rest = CanHoldStep version to_rest

abbrev pub IsStatePath : Version → StatePath → Type 0
IsStatePath version path = AllByRecursion (IsStateStep version) path × (length path ≤ step_limit)
