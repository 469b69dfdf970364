-- What keeps a site from its work.
use Rattle.std.specs.Prelude.{◌≡◌, ℕ, List, string_bytes}
use Rattle.std.specs.declared.io.Error.{Error}
use Rattle.cue_owners.specs.declared.read.TokenFileError.{TokenFileError}
use Rattle.cue_settings.specs.declared.stop.SettingsError.{SettingsError}
use Rattle.cue_settings.specs.declared.stop.SettingsError.TheVariants as stops

-- a journal that is damaged
abbrev pub IsDamage : SettingsError → Type 0
IsDamage (stops.Journal number name place) = Unit {0}
IsDamage other = ⊥

-- this file is damaged at this byte
abbrev pub IsDamaged : List ℕ → ℕ → SettingsError → Type 0
IsDamaged file at (stops.Damaged said place) = (string_bytes said ≡ file) × (place ≡ at)
IsDamaged file at other = ⊥

-- this operation of the system failed, with this error
abbrev pub IsSystem : List ℕ → Error → SettingsError → Type 0
IsSystem operation error (stops.System said file why) = (said.now ≡ operation) × (why ≡ error)
IsSystem operation error other = ⊥

-- this is no URL of a peer
abbrev pub IsPeer : List ℕ → SettingsError → Type 0
IsPeer url (stops.Peer said) = string_bytes said ≡ url
IsPeer url other = ⊥

-- this token file is refused, for this
abbrev pub IsTokenFault : List ℕ → TokenFileError → SettingsError → Type 0
IsTokenFault file why (stops.Tokens said given) = (string_bytes said ≡ file) × (given ≡ why)
IsTokenFault file why other = ⊥
