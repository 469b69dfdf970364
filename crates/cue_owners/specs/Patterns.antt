-- Which targets a pattern fits, and which patterns a token file may have.
use Rattle.std.specs.Prelude.{◌≡◌, ◌≢◌, ◌⊎◌, ◌++◌, ℕ, List, [], codes, All, IsTrue, Contains}
use Rattle.std.specs.Char.{is_ascii_alphanumeric}

-- `*` fits each target, `FRONT/*` each that begins with `FRONT/`, and any other pattern itself alone
abbrev pub Fits : List ℕ → List ℕ → Type 0
Fits pattern target =
    (pattern ≡ codes "*") ⊎ (pattern ≡ target)
    ⊎ ((front : List ℕ) × (rest : List ℕ) × (pattern ≡ front ++ codes "/*") × (target ≡ front ++ codes "/" ++ rest))

-- a letter, a digit, or one of `.`, `_`, `-` and `/`
abbrev pub IsNameByte : ℕ → Type 0
IsNameByte c = IsTrue (is_ascii_alphanumeric c) ⊎ Contains (codes "._-/") c

abbrev pub IsName : List ℕ → Type 0
IsName name = (name ≢ []) × All IsNameByte name

-- a layer or a policy by its name
abbrev pub IsKey : List ℕ → Type 0
IsKey word =
    (name : List ℕ) × ((word ≡ codes "layers/" ++ name) ⊎ (word ≡ codes "policies/" ++ name)) × IsName name

-- it names no layer and no policy
abbrev pub IsWide : List ℕ → Type 0
IsWide word =
    (word ≡ codes "*") ⊎ (word ≡ codes "commons") ⊎ (word ≡ codes "sync")
    ⊎ (word ≡ codes "layers/*") ⊎ (word ≡ codes "policies/*")

-- the patterns that a token file may have
abbrev pub IsPattern : List ℕ → Type 0
IsPattern word = IsWide word ⊎ IsKey word ⊎ ((key : List ℕ) × (word ≡ key ++ codes "/*") × IsKey key)
