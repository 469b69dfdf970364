-- Which hosts a request may name.
use Rattle.std.specs.Prelude.{◌≡◌, ◌⊎◌, ℕ, List, map, [], ◌∷◌, length, take, drop, All, Any, IsTrue, string_bytes}
use Rattle.std.specs.Char.{is_ascii_digit, to_ascii_lowercase}
use Rattle.cue_doors.specs.declared.doors.Doors.{Doors}

-- a colon with the digits of a port, or nothing
abbrev pub IsPort : List ℕ → Type 0
IsPort rest =
    (rest ≡ []) ⊎ ((digits : List ℕ) × (rest ≡ 58 ∷ digits) × All (λ c. IsTrue (is_ascii_digit c)) digits)

-- the same but for the case of ASCII letters
abbrev pub IsSameText : List ℕ → List ℕ → Type 0
IsSameText a b = map to_ascii_lowercase a ≡ map to_ascii_lowercase b

-- the field names this host, in any case, with a port or without
abbrev pub Names : List ℕ → List ℕ → Type 0
Names host field =
    IsSameText (take (length host) field) host × IsPort (drop (length host) field)

-- a digit, a dot or a colon
abbrev pub IsNumeric : ℕ → Type 0
IsNumeric c = IsTrue (is_ascii_digit c) ⊎ (c ≡ 46) ⊎ (c ≡ 58)

-- an address in brackets, or one of digits
abbrev pub IsAddress : List ℕ → Type 0
IsAddress field = ((rest : List ℕ) × (field ≡ 91 ∷ rest)) ⊎ All IsNumeric field

-- the field names a host of the site; where all addresses are the site's, any address
abbrev pub IsOwn : Doors → List ℕ → Type 0
IsOwn doors field =
    Any (λ host. Names (string_bytes host) field) doors.hosts.items
    ⊎ (IsTrue doors.any_address × IsAddress field)
