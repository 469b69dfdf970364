-- Files of a journal: a head that names the format, and then frames. A frame is a gate, a length in
-- eight bytes, the highest first, a checksum, and a batch of so many bytes. It counts if its gate is
-- open, the batch is whole and has this checksum, and each frame before it counts.
use Rattle.std.specs.Prelude.{◌≡◌, ◌⊎◌, ℕ, zero, suc, Bool, false, ◌≤◌, nat_lt, List, [], ◌∷◌, ◌++◌}
use Rattle.std.specs.Prelude.{length, take, drop, codes, count_ones, if◌then◌else◌, Option, Some, None}
use Rattle.std.specs.Int.{w64, to_be_bytes, from_be_bytes}
use Rattle.std.specs.Str.{bytes_eq}
use Rattle.sha2.specs.Sha256.{sha256}
use Rattle.cue_journal.specs.Blocks.{recovered_pieces, split_at}

-- what each file begins with: the name of the format, and its number
unfoldable pub file_head : List ℕ
file_head = codes "cuestore journal 2\n"

-- five of a gate's eight bits or more are set: so one bit that turns changes nothing
abbrev pub is_open_gate : ℕ → Bool
is_open_gate gate = nat_lt 4 (count_ones gate)

-- the first eight bytes of the batch's SHA-256
unfoldable pub checksum : List ℕ → List ℕ
checksum batch = take 8 (sha256 batch)

-- a batch, and what follows it, where it has this checksum
abbrev pub checked : List ℕ → Option (List ℕ × List ℕ) → Option (List ℕ × List ℕ)
checked sum None = None
checked sum (Some found) = if bytes_eq (checksum found.0) sum then Some found else None

-- a batch of so many bytes behind its checksum, and what follows it
abbrev pub summed : ℕ → Option (List ℕ × List ℕ) → Option (List ℕ × List ℕ)
summed size None = None
summed size (Some found) = checked found.0 (split_at size found.1)

-- the batch of the first frame, where it counts, and what follows it
abbrev pub next_batch : List ℕ → Option (List ℕ × List ℕ)
next_batch (gate ∷ a ∷ b ∷ c ∷ d ∷ e ∷ f ∷ g ∷ h ∷ rest) =
    if is_open_gate gate then summed (from_be_bytes w64 (a ∷ b ∷ c ∷ d ∷ e ∷ f ∷ g ∷ h ∷ [])) (split_at 8 rest) else None
next_batch rest = None

-- the entries of a batch in front of those that others bring
abbrev pub with_batch : (List ℕ → List (List ℕ) × List ℕ) → List ℕ → Option (List ℕ × List ℕ) → List (List ℕ) × List ℕ
with_batch others frames None = ([], frames)
with_batch others frames (Some found) = (recovered_pieces found.0 ++ (others found.1).0, (others found.1).1)

-- of at most so many frames
abbrev pub scan_up_to : ℕ → List ℕ → List (List ℕ) × List ℕ
scan_up_to zero frames = ([], frames)
scan_up_to (suc n) frames = with_batch (scan_up_to n) frames (next_batch frames)

-- the entries of the frames that count, and what stands behind these frames
unfoldable pub scan : List ℕ → List (List ℕ) × List ℕ
scan frames = scan_up_to (length frames) frames

-- the entries that count in a file
unfoldable pub file_entries : List ℕ → List (List ℕ)
file_entries file = (scan (drop 19 file)).0

-- a batch as it is written behind a gate: with its length and checksum, and a closed gate behind it
unfoldable pub sealed : List ℕ → List ℕ
sealed batch = (to_be_bytes w64 (length batch) ++ checksum batch ++ batch) ++ 0 ∷ []

-- whatever follows, these bytes bring these entries
abbrev pub Bring : List ℕ → List (List ℕ) → Type 0
Bring front entries = (rest : List ℕ) → scan (front ++ rest) ≡ (entries ++ (scan rest).0, (scan rest).1)

-- behind the frames that count stands this
pub record IsScannedTo (file rest : List ℕ) : Type 0 where
  pub front : List ℕ
  pub split : file ≡ front ++ rest
  pub bring : Bring front (scan file).0
  pub left : (scan file).1 ≡ rest

-- a gate that is closed, and anything behind it
abbrev pub IsShut : List ℕ → Type 0
IsShut [] = ⊥
IsShut (gate ∷ rest) = is_open_gate gate ≡ false

-- A file that is not damaged: its head was never written whole, so no frame can stand there; or it has
-- its head, and behind the frames that count a closed gate.
abbrev pub IsSound : List ℕ → Type 0
IsSound file =
    (length file ≤ 20)
    ⊎ ((frames : List ℕ) × (file ≡ file_head ++ frames) × IsShut (scan frames).1)
