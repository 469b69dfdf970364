-- Which tokens a token file has.
use Rattle.std.specs.Prelude.{◌≡◌, ◌≢◌, ◌⊎◌, ◌==◌, ◌+◌, ◌<◌, ◌≤◌, ℕ, Bool, true, false, List, [], ◌∷◌, length, take, map, filter, codes, All, AllPairs, IsTrue}
use Rattle.std.specs.List.{slice_split}
use Rattle.std.specs.Char.{is_ascii_whitespace, is_ascii_graphic}
use Rattle.cue_owners.specs.declared.grant.Grant.{Grant}
use Rattle.cue_owners.specs.declared.read.TokenFileError.{TokenFileError}
use Rattle.cue_owners.specs.declared.read.TokenFileError.TheVariants.{Empty, Line, OutOfMemory}
use Rattle.cue_owners.specs.Grants.{row_of}
use Rattle.cue_owners.specs.Patterns.{IsName, IsPattern}

abbrev pub is_full : {X : Type 0} → List X → Bool
is_full [] = false
is_full (x ∷ xs) = true

-- the lines of a text
abbrev pub lines_of : List ℕ → List (List ℕ)
lines_of text = slice_split (λ b. b == 10) text

-- the words of a line or a text, between spaces
abbrev pub words_of : List ℕ → List (List ℕ)
words_of line = filter is_full (slice_split is_ascii_whitespace line)

-- the words of each line that has some
abbrev pub rows_of : List (List ℕ) → List (List (List ℕ))
rows_of lines = filter is_full (map words_of lines)

-- visible ASCII
abbrev pub IsToken : List ℕ → Type 0
IsToken word = All (λ b. IsTrue (is_ascii_graphic b)) word

-- the words are OWNER TOKEN PATTERN..
abbrev pub IsRow : List (List ℕ) → Type 0
IsRow (owner ∷ token ∷ patterns) =
    IsName owner × IsToken token × (0 < length patterns) × All IsPattern patterns
IsRow row = ⊥

abbrev pub token_in : List (List ℕ) → List ℕ
token_in (owner ∷ token ∷ more) = token
token_in row = []

-- each line is OWNER TOKEN PATTERN.., and no two have one token
abbrev pub AreRows : List (List (List ℕ)) → Type 0
AreRows rows = All IsRow rows × AllPairs (λ a b. token_in a ≢ token_in b) rows

-- the file is one token
abbrev pub IsLone : List ℕ → List ℕ → Type 0
IsLone token text = (words_of text ≡ token ∷ []) × IsToken token

-- the lone token, which may do all
abbrev pub lone_row : List ℕ → List (List ℕ)
lone_row token = codes "*" ∷ token ∷ codes "*" ∷ []

-- the grants of the file: that of its one token, or those of its lines
abbrev pub IsTokenFile : List ℕ → List Grant → Type 0
IsTokenFile text grants =
    ((token : List ℕ) × IsLone token text × (map row_of grants ≡ lone_row token ∷ []))
    ⊎ (((token : List ℕ) → ¬ IsLone token text) × AreRows (rows_of (lines_of text))
    × (map row_of grants ≡ rows_of (lines_of text)) × (0 < length grants))

-- the lines before this one, counted from 1, are right, and with it they are not
pub record IsWrongLine (lines : List (List ℕ)) (number : ℕ) : Type 0 where
  pub place : ℕ
  pub counted : number ≡ place + 1
  pub within : number ≤ length lines
  pub before : AreRows (rows_of (take place lines))
  pub wrong : ¬ AreRows (rows_of (take number lines))

-- why lines are refused
abbrev pub AreRefused : List (List ℕ) → TokenFileError → Type 0
AreRefused lines Empty = rows_of lines ≡ []
AreRefused lines (Line number) = IsWrongLine lines number
AreRefused lines OutOfMemory = Unit {0}

-- why a file is: none that is one token, unless memory runs out
abbrev pub IsRefusedFile : List ℕ → TokenFileError → Type 0
IsRefusedFile text OutOfMemory = Unit {0}
IsRefusedFile text why = ((token : List ℕ) → ¬ IsLone token text) × AreRefused (lines_of text) why
