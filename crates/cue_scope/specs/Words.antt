-- The words that have a meaning of their own: the names of sets, and `close`.
use Rattle.std.specs.Prelude.{ℕ, cond, List, Option, Some, codes}
use Rattle.std.specs.Str.{bytes_eq}
use Rattle.std.specs.Option.{option_map}
use Rattle.cue_scope.specs.declared.named.Named.{Named}
use Rattle.cue_scope.specs.declared.named.Named.TheVariants as variants
use Rattle.cue_scope.specs.Named.{named_of}

-- the names of sets have the numbers from 0 on
abbrev pub number_of_named : Named → ℕ
number_of_named variants.Int = 0
number_of_named variants.Text = 1
number_of_named variants.Bool = 2
number_of_named variants.Int8 = 3
number_of_named variants.Uint8 = 4
number_of_named variants.Int16 = 5
number_of_named variants.Uint16 = 6
number_of_named variants.Int32 = 7
number_of_named variants.Uint32 = 8
number_of_named variants.Int64 = 9
number_of_named variants.Uint = 10

abbrev pub close_number : ℕ
close_number = 11

-- the number of a word that has a meaning
abbrev pub word_number : List ℕ → Option ℕ
word_number t =
    cond (bytes_eq t (codes "close")) (Some close_number) (option_map number_of_named (named_of t))
