-- The entity tags that a request names.
use Rattle.std.specs.Prelude.{◌≡◌, ◌==◌, ◌++◌, ◌||◌, ◌&&◌, ◌⊎◌, ℕ, Bool, true, List, [], ◌∷◌, IsTrue, codes, None}
use Rattle.http.specs.declared.request.Request.{Request}
use Rattle.http.specs.Request.{head_of}
use Rattle.http_header.specs.HeaderMap.{get}
use Rattle.cue_service.specs.Requests.{HasField}

-- a space or a tab
abbrev pub is_blank : ℕ → Bool
is_blank b = b == 32 || b == 9

-- behind these bytes an element of a list begins: from the last comma on, or from the start, all are blanks
abbrev pub begins_behind : Bool → List ℕ → Bool
begins_behind begins [] = begins
begins_behind begins (b ∷ bytes) = begins_behind (b == 44 || (is_blank b && begins)) bytes

-- before these bytes one ends: up to the first comma, or to the end, all are blanks
abbrev pub ends_before : List ℕ → Bool
ends_before [] = true
ends_before (b ∷ bytes) = b == 44 || (is_blank b && ends_before bytes)

-- An element of a list whose elements commas part. A quoted tag has no quote in it, so in a list of tags no
-- other tag has one in it that is an element so.
pub record IsListed (element field : List ℕ) : Type 0 where
  pub before : List ℕ
  pub behind : List ℕ
  pub is : field ≡ before ++ element ++ behind
  pub begins : IsTrue (begins_behind true before)
  pub ends : IsTrue (ends_before behind)

-- by the strong comparison the field names any tag, or this one
abbrev pub NamesStrongTag : List ℕ → List ℕ → Type 0
NamesStrongTag tag field = IsListed (codes "*") field ⊎ IsListed tag field

-- by the weak one a weak tag is the same as the strong one
abbrev pub NamesTag : List ℕ → List ℕ → Type 0
NamesTag tag field = NamesStrongTag tag field ⊎ IsListed (codes "W/" ++ tag) field

-- who asks has the version with this tag
abbrev pub HasTag : List ℕ → Request (List ℕ) → Type 0
HasTag tag request = HasField (codes "if-none-match") (NamesTag tag) request

-- who changes it has no other version in mind
abbrev pub MatchesTag : List ℕ → Request (List ℕ) → Type 0
MatchesTag tag request =
    (get (head_of request).headers (codes "if-match") ≡ None)
    ⊎ HasField (codes "if-match") (NamesStrongTag tag) request
