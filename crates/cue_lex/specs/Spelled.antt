-- The text that a string stands for, wherever it is kept.
use Rattle.std.specs.Prelude.{ℕ, List, string_bytes}
use Rattle.cue_lex.specs.declared.quoted.Spelled.{Spelled}
use Rattle.cue_lex.specs.declared.quoted.Spelled.TheVariants.{Plain, Decoded}

abbrev pub bytes_of_spelled : Spelled → List ℕ
bytes_of_spelled (Plain text) = text.now
bytes_of_spelled (Decoded text) = string_bytes text.value
