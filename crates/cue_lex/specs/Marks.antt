-- Punctuation.
use Rattle.std.specs.Prelude.{◌≡◌, ◌≤◌, ℕ, true, false, List, [], ◌∷◌, ◌++◌, map, length, Option}
use Rattle.std.specs.Prelude.{Some, None, MatchOption, ◌==◌, codes, nat_eq, if◌then◌else◌}
use Rattle.std.specs.List.{starts_with, AllByRecursion}
use Rattle.std.specs.Option.{option_map}
use Rattle.cue_lattice.specs.OneOf.{OneOf}
use Rattle.cue_lex.specs.declared.punctuation.Punctuation.{Punctuation}
use Rattle.cue_lex.specs.declared.punctuation.Punctuation.TheVariants as points

-- the marks of one byte
abbrev pub single_marks : List (ℕ × Punctuation)
single_marks =
    (123, points.OpenBrace) ∷ (125, points.CloseBrace)
    ∷ (91, points.OpenBracket) ∷ (93, points.CloseBracket)
    ∷ (40, points.OpenParenthesis) ∷ (41, points.CloseParenthesis)
    ∷ (58, points.Colon) ∷ (44, points.Comma)
    ∷ (63, points.Question) ∷ (33, points.Exclamation) ∷ (124, points.Bar) ∷ (38, points.Ampersand)
    ∷ (42, points.Star) ∷ (45, points.Minus) ∷ (43, points.Plus)
    ∷ (60, points.Less) ∷ (62, points.Greater) ∷ []

-- the longer ones
abbrev pub longer_marks : List (List ℕ × Punctuation)
longer_marks =
    (codes "...", points.Ellipsis) ∷ (codes "<=", points.AtMost) ∷ (codes ">=", points.AtLeast)
    ∷ (codes "!=", points.NotEqual) ∷ []

-- all marks, each with its bytes
abbrev pub marks : List (List ℕ × Punctuation)
marks = longer_marks ++ map (λ m. (m.0 ∷ [], m.1)) single_marks

abbrev pub first_mark_of : ℕ → List (ℕ × Punctuation) → Option Punctuation
first_mark_of b [] = None
first_mark_of b (m ∷ ms) = if b == m.0 then Some m.1 else first_mark_of b ms

-- the mark that one byte is
unfoldable pub single_mark : ℕ → Option Punctuation
single_mark b = first_mark_of b single_marks

abbrev pub first_mark : List ℕ → Option (Punctuation × ℕ)
first_mark [] = None
first_mark (b ∷ bytes) = option_map (λ kind. (kind, 1)) (single_mark b)

-- the longest mark at the front, and how many bytes it has
unfoldable pub mark_in_front : List ℕ → Option (Punctuation × ℕ)
mark_in_front bytes =
    if starts_with nat_eq bytes (codes "...") then Some (points.Ellipsis, 3)
    else (if starts_with nat_eq bytes (codes "<=") then Some (points.AtMost, 2)
    else (if starts_with nat_eq bytes (codes ">=") then Some (points.AtLeast, 2)
    else (if starts_with nat_eq bytes (codes "!=") then Some (points.NotEqual, 2)
    else first_mark bytes)))

-- the bytes begin with this mark of so many bytes, and with none of more
pub record IsLongest (bytes : List ℕ) (found : Punctuation × ℕ) : Type 0 where
  pub spelled : List ℕ
  pub is : OneOf (λ m. m ≡ (spelled, found.0)) marks
  pub size : length spelled ≡ found.1
  pub begins : starts_with nat_eq bytes spelled ≡ true
  pub longest : AllByRecursion
      (λ m. starts_with nat_eq bytes m.0 ≡ true → length m.0 ≤ found.1) marks

abbrev pub BeginsWithNone : List ℕ → Type 0
BeginsWithNone bytes = AllByRecursion (λ m. starts_with nat_eq bytes m.0 ≡ false) marks

-- of all the marks that stand at the front the longest is taken
abbrev pub TakesTheLongest : Type 0
TakesTheLongest =
    (bytes : List ℕ) → MatchOption (mark_in_front bytes) (BeginsWithNone bytes) (IsLongest bytes)
