-- A page that is full.
use Rattle.std.proofs.Common.{◌≡◌, ◌++◌, ◌∙◌, ℕ, List, Some, take, drop, sym}
use Rattle.std.proofs.lemmas.List.{take-append-drop}
use Rattle.cue_device.specs.Texts.{WritesPrefix}

-- the front of a piece was added
pub begun_at : (old new bytes piece : List ℕ) (room : ℕ) → bytes ≡ piece → new ≡ old ++ take room bytes → WritesPrefix (Some old) (Some new) piece
begun_at old new bytes piece room is added =
    record { front = take room bytes; back = drop room bytes; whole = sym is ∙ sym (take-append-drop room bytes); added = added }
