-- How large things may be. The code's constants of the same names have these values.
use Rattle.std.specs.Prelude.{ℕ}

-- the bytes of a fragment's text
abbrev pub text_limit : ℕ
text_limit = 1048576

-- the bytes of an identifier, a label or a decoded string
abbrev pub word_limit : ℕ
word_limit = 65535

-- the levels that are open at once: parentheses, braces and brackets, and each label of a chain
-- after its first
abbrev pub level_limit : ℕ
level_limit = 64

-- the steps of the path of a declared label or element
abbrev pub step_limit : ℕ
step_limit = 64

-- the size of a file, where each use of a definition counts all that the definition writes
abbrev pub size_limit : ℕ
size_limit = 65536

-- the elements of a list of a state
abbrev pub length_limit : ℕ
length_limit = 65536
