-- Names, byte by byte.
use Rattle.std.specs.Prelude.{◌≢◌, ◌⊎◌, ℕ, ◌+◌, ◌<◌, List, [], ◌∷◌}
use Rattle.cue_layers.specs.Names.{MayFollow, slash, name_limit}

-- at this index, behind this byte, some name has the byte
abbrev pub MayStand : ℕ → ℕ → ℕ → Type 0
MayStand index before b =
    (index < name_limit) × MayFollow before b × ((index + 1 < name_limit) ⊎ (b ≢ slash))

-- each byte may follow the one before it
abbrev pub NameFollows : ℕ → List ℕ → Type 0
NameFollows before [] = Unit {0}
NameFollows before (b ∷ bytes) = MayFollow before b × NameFollows b bytes

-- the last byte
abbrev pub last_of : ℕ → List ℕ → ℕ
last_of before [] = before
last_of before (b ∷ bytes) = last_of b bytes
