-- Beside `specs/Reading.antt`: what private clauses and proofs alone cite.
use Rattle.std.specs.Prelude.{◌≡◌, ℕ, List, ◌++◌, length}
use Rattle.std.specs.List.{AllByRecursion}
use Rattle.cue_codec.specs.declared.unread.Unread.{Unread}
use Rattle.cue_codec.specs.declared.unread.Unread.TheVariants.{Memory, Cut, Wrong}

-- so many items
abbrev pub AreSo : {X : Type 0} → (X → Type 0) → ℕ → List X → Type 0
AreSo is_item count items = (length items ≡ count) × AllByRecursion is_item items

-- Why no value was read, where the bytes of none stand in front of some bytes: memory ran out; or
-- none stands in front of these; or none does whatever follows them.
abbrev pub IsNoneRead : Unread → (List ℕ → Type 0) → List ℕ → Type 0
IsNoneRead Memory none bytes = Unit {0}
IsNoneRead Cut none bytes = none bytes
IsNoneRead Wrong none bytes = (more : List ℕ) → none (bytes ++ more)
