-- What a token may write, and whose it is.
use Rattle.std.specs.Prelude.{ℕ, List, ◌∷◌, map, Any, string_bytes}
use Rattle.cue_owners.specs.declared.grant.Grant.{Grant}
use Rattle.cue_owners.specs.Patterns.{Fits}

-- the bytes of a token
abbrev pub token_of : Grant → List ℕ
token_of grant = grant.token.items

-- the patterns of what its token may write
abbrev pub patterns_of : Grant → List (List ℕ)
patterns_of grant = map (λ pattern. pattern.items) grant.patterns.items

-- a grant as a line of a token file says it: OWNER TOKEN PATTERN..
abbrev pub row_of : Grant → List (List ℕ)
row_of grant = string_bytes grant.owner ∷ token_of grant ∷ patterns_of grant

-- one of the grant's patterns fits
abbrev pub Reaches : List ℕ → Grant → Type 0
Reaches target grant = Any (λ pattern. Fits pattern.items target) grant.patterns.items
