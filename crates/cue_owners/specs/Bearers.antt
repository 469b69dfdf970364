-- A token in a field `Authorization`.
use Rattle.std.specs.Prelude.{◌≡◌, ◌++◌, ℕ, List, map, codes}
use Rattle.std.specs.Char.{to_ascii_lowercase}

-- a field has just this token behind `Bearer `, in any case
abbrev pub IsBearer : List ℕ → List ℕ → Type 0
IsBearer token field =
    (scheme : List ℕ) × (map to_ascii_lowercase scheme ≡ codes "bearer ") × (field ≡ scheme ++ token)
