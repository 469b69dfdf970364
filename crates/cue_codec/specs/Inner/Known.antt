-- Beside `specs/Known.antt`: what private clauses and proofs alone cite.
use Rattle.std.specs.Prelude.{ℕ, List, []}
use Rattle.cue_row.specs.declared.parts.RowParts.{RowParts as Row}
use Rattle.cue_table.specs.Slots as slots
use Rattle.cue_codec.specs.declared.version.Version.{Version}
use Rattle.cue_codec.specs.Known.{AreRowsRead}

-- all rows were read, and no byte is left
abbrev pub AreDrafted : Version → List ℕ → ℕ → List (slots.Place × Row) → List ℕ → Type 0
AreDrafted version bytes count rows indexes =
    (known : List ℕ) × AreRowsRead version bytes [] count 0 rows indexes known
