-- The versions of state bytes: each has a byte of its own.
use Rattle.std.specs.Prelude.{◌≡◌, ℕ}
use Rattle.cue_codec.specs.declared.version.Version.{Version}
use Rattle.cue_codec.specs.declared.version.Version.TheVariants as versions

-- the byte that stands for a version
abbrev pub version_byte : Version → ℕ
version_byte versions.First = 1
version_byte versions.Second = 2

-- a byte that stands for none
abbrev pub IsNoVersion : ℕ → Type 0
IsNoVersion byte = (version : Version) → ¬ (byte ≡ version_byte version)

-- the version that is written
abbrev pub written_version : Version
written_version = versions.Second
