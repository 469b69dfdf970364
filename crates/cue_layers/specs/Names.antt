-- The names of layers.
use Rattle.std.specs.Prelude.{◌≡◌, ◌≢◌, ◌⊎◌, ℕ, ◌<◌, ◌≤◌, List, [], ◌∷◌, ◌++◌, length, take}

-- the most bytes of a name
abbrev pub name_limit : ℕ
name_limit = 255

-- '/', '.' and '-'
abbrev pub slash : ℕ
slash = 47

abbrev pub name_dot : ℕ
name_dot = 46

abbrev pub dash : ℕ
dash = 45

-- a digit, a letter or '_'
abbrev pub IsWordByte : ℕ → Type 0
IsWordByte b =
    ((48 ≤ b) × (b ≤ 57)) ⊎ (((65 ≤ b) × (b ≤ 90)) ⊎ (((97 ≤ b) × (b ≤ 122)) ⊎ (b ≡ 95)))

-- Such a byte may follow any other. '.', '-' and '/' may not follow a '/', behind which a part of
-- the name begins.
abbrev pub MayFollow : ℕ → ℕ → Type 0
MayFollow before b =
    IsWordByte b ⊎ ((before ≢ slash) × ((b ≡ name_dot) ⊎ ((b ≡ dash) ⊎ (b ≡ slash))))

-- behind this byte these bytes end a name
abbrev pub EndsName : ℕ → List ℕ → Type 0
EndsName before [] = before ≢ slash
EndsName before (b ∷ bytes) = MayFollow before b × EndsName b bytes

-- Parts between slashes, none of which is empty or begins with '.' or '-'. The first one begins as
-- if behind a slash.
abbrev pub IsLayerName : List ℕ → Type 0
IsLayerName name = (length name ≤ name_limit) × EndsName slash name

-- some name begins with these bytes
abbrev pub BeginsName : List ℕ → Type 0
BeginsName bytes = (more : List ℕ) × IsLayerName (bytes ++ more)

-- The bytes are no name, and the longest beginning of theirs with which some name begins has this
-- length.
pub record IsBadAt (bytes : List ℕ) (place : ℕ) : Type 0 where
  pub no_name : ¬ IsLayerName bytes
  pub within : place ≤ length bytes
  pub begins : BeginsName (take place bytes)
  pub longest : (longer : ℕ) → place < longer → longer ≤ length bytes
      → ¬ BeginsName (take longer bytes)
