-- Requests that a web page of another site may have sent, and those for another host.
use Rattle.std.specs.Prelude.{◌≡◌, ◌⊎◌, ◌++◌, ℕ, List, codes, Option, Some}
use Rattle.std.specs.Option.{option_map}
use Rattle.http.specs.declared.request.Request.{Request}
use Rattle.http.specs.Request.{head_of}
use Rattle.http_header.specs.HeaderMap.{get}
use Rattle.cue_doors.specs.declared.doors.Doors.{Doors}
use Rattle.cue_doors.specs.declared.doors.DoorRefusal.{DoorRefusal}
use Rattle.cue_doors.specs.declared.doors.DoorRefusal.TheVariants.{OtherHost, OtherSite}
use Rattle.cue_doors.specs.Hosts.{IsOwn, IsSameText}

-- what the first field of this name has
abbrev pub value_of : List ℕ → Request (List ℕ) → Option (List ℕ)
value_of name request = option_map (λ field. field.bytes) (get (head_of request).headers name)

-- the request only reads
abbrev pub IsReading : Request (List ℕ) → Type 0
IsReading request =
    ((head_of request).method ≡ codes "GET") ⊎ ((head_of request).method ≡ codes "HEAD")

-- what is behind the scheme of an origin
abbrev pub IsBehindScheme : List ℕ → List ℕ → Type 0
IsBehindScheme origin rest =
    (origin ≡ codes "http://" ++ rest) ⊎ (origin ≡ codes "https://" ++ rest)

-- a page of this host has this origin
abbrev pub IsOriginOf : List ℕ → List ℕ → Type 0
IsOriginOf host origin =
    (rest : List ℕ) × IsBehindScheme origin rest × IsSameText rest host

-- a browser says that a page of another site sent the request
abbrev pub IsForeign : Request (List ℕ) → Type 0
IsForeign request =
    (value_of (codes "sec-fetch-site") request ≡ Some (codes "cross-site"))
    ⊎ ((origin : List ℕ) × (value_of (codes "origin") request ≡ Some origin)
    × ((host : List ℕ) → value_of (codes "host") request ≡ Some host → ¬ IsOriginOf host origin))

-- the request names a host that is not the site's
abbrev pub IsForAnother : Doors → Request (List ℕ) → Type 0
IsForAnother doors request =
    (host : List ℕ) × (value_of (codes "host") request ≡ Some host) × (¬ IsOwn doors host)

-- why a request is not let in
abbrev pub IsBarred : Doors → Request (List ℕ) → DoorRefusal → Type 0
IsBarred doors request OtherHost = IsForAnother doors request
IsBarred doors request OtherSite = (¬ IsReading request) × IsForeign request
