-- What the one who sent a request may write.
use Rattle.std.specs.Prelude.{◌≡◌, ℕ, List, Any, string_bytes}
use Rattle.cue_owners.specs.declared.owners.Owners.{Owners}
use Rattle.cue_owners.specs.declared.owners.Access.{Access}
use Rattle.cue_owners.specs.declared.owners.Access.TheVariants.{Unknown, Barred, Allowed}
use Rattle.cue_owners.specs.Bearers.{IsBearer}
use Rattle.cue_owners.specs.Grants.{token_of, Reaches}

-- the field has a token of the file
abbrev pub IsKnown : Owners → List ℕ → Type 0
IsKnown owners field = Any (λ grant. IsBearer (token_of grant) field) owners.grants.items

-- the field has a token that may write the target
abbrev pub MayWriteTo : Owners → List ℕ → List ℕ → Type 0
MayWriteTo owners field target =
    Any (λ grant. IsBearer (token_of grant) field × Reaches target grant) owners.grants.items

-- the field has such a token of one with this name
abbrev pub IsOwner : Owners → List ℕ → List ℕ → List ℕ → Type 0
IsOwner owners field target name =
    Any (λ grant. IsBearer (token_of grant) field × Reaches target grant × (string_bytes grant.owner ≡ name)) owners.grants.items

-- which answer is given: these three exclude each other
abbrev pub HasAccess : Owners → List ℕ → List ℕ → Access → Type 0
HasAccess owners field target Unknown = ¬ IsKnown owners field
HasAccess owners field target Barred = IsKnown owners field × (¬ MayWriteTo owners field target)
HasAccess owners field target (Allowed name) = IsOwner owners field target name.now
