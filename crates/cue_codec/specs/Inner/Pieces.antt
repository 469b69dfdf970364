-- Rows whose bytes come in pieces.
use Rattle.std.specs.Prelude.{◌≡◌, ℕ, ◌+◌, ◌-◌, ◌<◌, ◌≤◌, Bool, true, false, List, ◌++◌, length}
use Rattle.std.specs.Prelude.{take, Option, Some, None}
use Rattle.cue_codec.specs.Inner.Drafting.{RowsRead, IsNext, NoneNext, IsMore, IsNoRowsPrefix}

-- the rows with bytes of one that is unfinished
abbrev pub with_bytes : RowsRead → List ℕ → RowsRead
with_bytes rows unfinished = record rows { bytes = rows.bytes ++ unfinished }

-- all bytes are counted, with the 13 of the head
abbrev pub ArePieces : RowsRead → ℕ → Type 0
ArePieces rows taken = length rows.bytes + 13 ≡ taken

-- so many bytes in front were taken in, or no rows begin with the bytes
abbrev pub IsTaken : RowsRead → List ℕ → RowsRead → Option ℕ → Type 0
IsTaken old bytes new (Some len) =
    (0 < len) × (len ≤ length bytes) × IsMore old (take len bytes) new
IsTaken old bytes new None = IsNoRowsPrefix old.version old.count (old.bytes ++ bytes)

-- so many of the last bytes were taken in with those before them, or no rows begin with the bytes
abbrev pub IsReadAgain : RowsRead → List ℕ → ℕ → RowsRead → Option ℕ → Type 0
IsReadAgain old bytes last new (Some len) =
    (0 < len) × (len ≤ last) × IsMore old (take (length bytes - last + len) bytes) new
IsReadAgain old bytes last new None = IsNoRowsPrefix old.version old.count (old.bytes ++ bytes)

-- one more row was read from the front of bytes; or all is as it was, since none stands there
abbrev pub HasNext : RowsRead → List ℕ → RowsRead → List ℕ → Bool → Type 0
HasNext old bytes new rest true = IsNext old bytes new rest
HasNext old bytes new rest false = (new ≡ old) × (rest ≡ bytes) × NoneNext old bytes

-- the rows with so many bytes in front were added, or no rows begin with the bytes
abbrev pub HasRows : RowsRead → List ℕ → RowsRead → Option ℕ → Type 0
HasRows old bytes new (Some len) = (len ≤ length bytes) × IsMore old (take len bytes) new
HasRows old bytes new None = IsNoRowsPrefix old.version old.count (old.bytes ++ bytes)
