-- The tag of a table.
use Rattle.std.specs.Prelude.{ℕ, List, [], ◌∷◌, ◌++◌}
use Rattle.hex.specs.Hex.{encode_lower}
use Rattle.sha2.specs.Sha256.{sha256}
use Rattle.cue_replica.specs.Language.{Table, language}

-- SHA-256 of bytes in hexadecimal digits, in quotes
unfoldable pub quoted_digest : List ℕ → List ℕ
quoted_digest bytes = 34 ∷ (encode_lower (sha256 bytes) ++ 34 ∷ [])

-- That of the state bytes: tables with one tag have one state, or two with one digest.
abbrev pub tag_of : Table → List ℕ
tag_of table = quoted_digest (language.written table)
