-- A cursor as a text: a run and a count in decimal digits, and `-` between them.
use Rattle.std.specs.Prelude.{◌≡◌, ℕ, List, ◌∷◌, ◌++◌}
use Rattle.std.specs.Fmt.{decimal}
use Rattle.std.specs.Str.Parse.{IsNumeral, digits_value, without_leading_plus}

abbrev pub cursor_text : ℕ → ℕ → List ℕ
cursor_text run count = decimal run ++ 45 ∷ decimal count

-- decimal digits, also with zeros or a plus before them
abbrev pub IsDecimalOf : List ℕ → ℕ → Type 0
IsDecimalOf digits n = IsNumeral 10 (without_leading_plus digits) × (digits_value 10 (without_leading_plus digits) ≡ n)

abbrev pub IsCursor : List ℕ → ℕ → ℕ → Type 0
IsCursor text run count =
    (before behind : List ℕ) × (text ≡ before ++ 45 ∷ behind) × IsDecimalOf before run × IsDecimalOf behind count
