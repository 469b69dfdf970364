-- How a path is written.
use Rattle.std.specs.Prelude.{ℕ, List, [], ◌∷◌, Bool, false, not, ◌&&◌, ◌||◌, ◌==◌, if◌then◌else◌}
use Rattle.std.specs.Prelude.{map, decimal}
use Rattle.std.specs.Char.{is_ascii_digit, is_ascii_alphanumeric}
use Rattle.std.specs.List.{list_all, join_with_byte}
use Rattle.cue_lattice.specs.Path.{Step, Path, label, index}
use Rattle.cue_row.specs.Quoted.{quote_text}

abbrev pub path_dot : ℕ
path_dot = 0x2e

abbrev pub underscore : ℕ
underscore = 0x5f

abbrev pub dollar : ℕ
dollar = 0x24

-- an ASCII letter or digit, `_` or `$`
abbrev pub is_word_byte : ℕ → Bool
is_word_byte b = is_ascii_alphanumeric b || (b == underscore || b == dollar)

-- A label needs no quotation marks where it is not empty, doesn't begin with a digit, and has only
-- such bytes.
abbrev pub is_bare : List ℕ → Bool
is_bare [] = false
is_bare (b ∷ bs) = not (is_ascii_digit b) && list_all is_word_byte (b ∷ bs)

abbrev pub label_text : List ℕ → List ℕ
label_text l = if is_bare l then l else quote_text l

-- a label bare or quoted, and an index in decimal digits
abbrev pub step_text : Step → List ℕ
step_text (label l) = label_text l
step_text (index n) = decimal n

-- a dot for the root, and otherwise the steps with dots between them
abbrev pub path_text : Path → List ℕ
path_text [] = path_dot ∷ []
path_text (step ∷ steps) = join_with_byte path_dot (map step_text (step ∷ steps))
