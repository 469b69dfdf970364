-- The texts of fragments and tables: identifiers, labels and strings.
use Rattle.std.specs.Prelude.{◌≤◌, ℕ, List, length}
use Rattle.std.specs.Str.{IsUtf8}
use Rattle.cue_lattice.specs.Limits.{word_limit}

-- a text in UTF-8 that is not too long
pub record IsWord (text : List ℕ) : Type 0 where
  pub utf8 : IsUtf8 text
  pub short : length text ≤ word_limit
