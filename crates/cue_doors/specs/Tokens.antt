-- Which requests need a token, and what a token lets its owner do.
use Rattle.std.specs.Prelude.{◌≡◌, ◌⊎◌, ◌&&◌, ◌||◌, Bool, ℕ, List, [], drop, codes, unwrap_or, bytes_eq, Option, Some, None, IsSome, if◌then◌else◌}
use Rattle.http.specs.declared.request.Request.{Request}
use Rattle.http.specs.Request.{head_of}
use Rattle.http_uri.specs.Uri.{uri_path}
use Rattle.percent_encoding.specs.Percent.{percent_decode}
use Rattle.cue_owners.specs.declared.owners.Owners.{Owners}
use Rattle.cue_owners.specs.Access.{IsKnown, MayWriteTo}
use Rattle.cue_doors.specs.declared.keys.Keys.{Keys}
use Rattle.cue_doors.specs.declared.keys.KeyRefusal.{KeyRefusal}
use Rattle.cue_doors.specs.declared.keys.KeyRefusal.TheVariants.{Unauthorized, Forbidden}
use Rattle.cue_doors.specs.Requests.{value_of, IsReading}

abbrev pub method_of : Request (List ℕ) → List ℕ
method_of request = (head_of request).method

abbrev pub path_of : Request (List ℕ) → List ℕ
path_of request = uri_path (head_of request).uri

-- the first field `Authorization`, or no bytes
abbrev pub credentials_of : Request (List ℕ) → List ℕ
credentials_of request = unwrap_or (value_of (codes "authorization") request) []

-- it posts a piece of the commons
abbrev pub posts_piece : Request (List ℕ) → Bool
posts_piece request =
    bytes_eq (method_of request) (codes "POST")
    && (bytes_eq (path_of request) (codes "/fragments") || bytes_eq (path_of request) (codes "/state"))

-- What a write changes, as the patterns of a token file name it: the commons, or what its path names,
-- without the slash in front.
abbrev pub target_of : Request (List ℕ) → List ℕ
target_of request = if posts_piece request then codes "commons" else percent_decode (drop 1 (path_of request))

-- it asks whether the site is up, or ready
abbrev pub IsProbe : Request (List ℕ) → Type 0
IsProbe request = (path_of request ≡ codes "/healthz") ⊎ (path_of request ≡ codes "/readyz")

-- a write, where writers are set; a read, where readers are set, but for a probe
abbrev pub NeedsToken : Keys → Request (List ℕ) → Type 0
NeedsToken keys request =
    ((¬ IsReading request) × IsSome keys.writers)
    ⊎ (IsReading request × (¬ IsProbe request) × IsSome keys.readers)

-- the field has a token of this file
abbrev pub Knows : Option Owners → List ℕ → Type 0
Knows None field = ⊥
Knows (Some owners) field = IsKnown owners field

-- the request carries a token of a writer or of a reader
abbrev pub CarriesToken : Keys → Request (List ℕ) → Type 0
CarriesToken keys request =
    Knows keys.writers (credentials_of request) ⊎ Knows keys.readers (credentials_of request)

-- the field has a token that may write the target; without a file anybody may
abbrev pub LetsWrite : Option Owners → List ℕ → List ℕ → Type 0
LetsWrite None field target = Unit {0}
LetsWrite (Some owners) field target = MayWriteTo owners field target

-- it needs a token, and carries none that is known
abbrev pub IsUnauthorized : Keys → Request (List ℕ) → Type 0
IsUnauthorized keys request = NeedsToken keys request × (¬ CarriesToken keys request)

-- it needs a token, carries one that is known, and writes what no such token may
abbrev pub IsForbidden : Keys → Request (List ℕ) → Type 0
IsForbidden keys request =
    NeedsToken keys request × CarriesToken keys request × (¬ IsReading request)
    × (¬ LetsWrite keys.writers (credentials_of request) (target_of request))

-- why a request is not let in for its token
abbrev pub IsLocked : Keys → Request (List ℕ) → KeyRefusal → Type 0
IsLocked keys request Unauthorized = IsUnauthorized keys request
IsLocked keys request Forbidden = IsForbidden keys request
