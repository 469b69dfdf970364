-- What a reader has taken in, by what it keeps.
use Rattle.std.specs.Prelude.{◌≡◌, ◌<◌, ◌^◌, ℕ, List, ◌∷◌, ◌++◌, length, take}
use Rattle.std.specs.Int.{w64, to_be_bytes}
use Rattle.cue_codec.specs.declared.state_reader.TakenBytes.{TakenBytes}
use Rattle.cue_codec.specs.declared.state_reader.TakenBytes.TheVariants as takens
use Rattle.cue_codec.specs.declared.version.Version.{Version}
use Rattle.cue_codec.specs.Pieces.{Intake, so_far, other_version, no_state, failed, IsIntake}
use Rattle.cue_codec.specs.State.{state_mark}
use Rattle.cue_codec.specs.Version.{version_byte}

-- a head, and what stands behind it
abbrev pub with_head : Version → ℕ → List ℕ → List ℕ
with_head version count bytes = state_mark ++ (version_byte version ∷ (to_be_bytes w64 count ++ bytes))

abbrev pub intake_of : TakenBytes → Intake
intake_of (takens.Head head len) = so_far (take len head)
intake_of (takens.Rows rows) = so_far (with_head rows.version rows.count rows.bytes)
intake_of takens.OtherVersion = other_version
intake_of takens.NoState = no_state
intake_of takens.Failed = failed

-- a head is unfinished, and a count is one of 64 bits
abbrev pub IsSound : TakenBytes → Type 0
IsSound (takens.Head head len) = (length head ≡ 13) × (len < 13)
IsSound (takens.Rows rows) = rows.count < 2 ^ 64
IsSound takens.OtherVersion = Unit {0}
IsSound takens.NoState = Unit {0}
IsSound takens.Failed = Unit {0}

-- all of these bytes were taken in
abbrev pub HasTaken : List ℕ → TakenBytes → Type 0
HasTaken bytes taken = IsSound taken × IsIntake bytes (intake_of taken)
