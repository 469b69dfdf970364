-- Who may write.
use Rattle.std.specs.Prelude.{◌≡◌, ◌++◌, ℕ, List, map, codes, Option, Some, None}
use Rattle.std.specs.Char.{to_ascii_lowercase}
use Rattle.http.specs.declared.request.Request.{Request}
use Rattle.http.specs.Request.{head_of}
use Rattle.http_header.specs.FieldValue.{FieldValue}
use Rattle.http_header.specs.HeaderMap.{get}
use Rattle.cue_service.specs.declared.access.AccessToken.{AccessToken}

-- a field has just this token behind `Bearer `, in any case
abbrev pub IsBearer : List ℕ → List ℕ → Type 0
IsBearer token field =
    (scheme : List ℕ) × (map to_ascii_lowercase scheme ≡ codes "bearer ") × (field ≡ scheme ++ token)

-- the first field `Authorization` of the request does
abbrev pub CarriesToken : List ℕ → Request (List ℕ) → Type 0
CarriesToken token request =
    (field : FieldValue) × (get (head_of request).headers (codes "authorization") ≡ Some field)
    × IsBearer token field.bytes

-- who sent the request may write: where a token is set, only with it
abbrev pub MayWrite : Option AccessToken → Request (List ℕ) → Type 0
MayWrite None request = Unit {0}
MayWrite (Some token) request = CarriesToken token.bytes.items request
