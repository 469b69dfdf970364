-- Numbers of editions of a table.
use Rattle.std.specs.Prelude.{◌≡◌, ◌↔◌, ◌⊎◌, ℕ, List, Some}
use Rattle.std.specs.Option.{option_map}
use Rattle.cue_service.specs.declared.editions.Editions.{Editions}

-- the tag that was seen last is this one
abbrev pub HasSeen : Editions → List ℕ → Type 0
HasSeen editions tag = option_map (λ seen. seen.bytes) editions.seen ≡ Some tag

-- The number that goes with a tag: another one exactly where the tag is not that which was seen last. Or
-- memory ran out for the tag, and the number stays.
abbrev pub IsEdition : Editions → List ℕ → ℕ → Editions → Type 0
IsEdition old tag number new =
    (number ≡ new.number)
    × ((HasSeen new tag × (new.number ≡ old.number ↔ HasSeen old tag)) ⊎ (new ≡ old))
