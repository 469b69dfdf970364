-- Lines of bytes, and the parts that separating lines cut them into.
use Rattle.std.specs.Prelude.{◌≡◌, ◌⊎◌, ℕ, List, [], ◌∷◌, ◌++◌, Option, Some, None}
use Rattle.std.specs.Prelude.{codes, ◌==◌, if◌then◌else◌}
use Rattle.std.specs.List.{AllByRecursion, concat}

-- one byte more in front of the first line
abbrev pub lengthen_line : ℕ → List (List ℕ) → List (List ℕ)
lengthen_line b [] = (b ∷ []) ∷ []
lengthen_line b (line ∷ lines) = (b ∷ line) ∷ lines

-- The lines, each with its line break U+000A, which the last one may lack. Joined they are the
-- bytes.
abbrev pub lines_of : List ℕ → List (List ℕ)
lines_of [] = []
lines_of (b ∷ bytes) = if b == 10 then (b ∷ []) ∷ lines_of bytes else lengthen_line b (lines_of bytes)

-- the line separates: it is exactly `---`
abbrev pub IsSeparator : List ℕ → Type 0
IsSeparator line = (line ≡ codes "---\n") ⊎ (line ≡ codes "---")

-- no line of a part separates
abbrev pub IsPart : List (List ℕ) → Type 0
IsPart lines = AllByRecursion (λ line. IsSeparator line → ⊥) lines

-- The lines are cut into parts, one more than there are separating lines, and into these lines.
abbrev pub ArePartsOfText : List (List ℕ) → List (List ℕ) → Type 0
ArePartsOfText lines [] = ⊥
ArePartsOfText lines (part ∷ []) = IsPart lines × (concat lines ≡ part)
ArePartsOfText lines (part ∷ next ∷ parts) =
    (front back : List (List ℕ)) × (line : List ℕ) × (lines ≡ front ++ line ∷ back)
    × IsPart front × (concat front ≡ part) × IsSeparator line × ArePartsOfText back (next ∷ parts)

-- The part in front of the first separating line, and the bytes after that line, where there is
-- one.
abbrev pub IsFirstPart : List ℕ → List ℕ → Option (List ℕ) → Type 0
IsFirstPart bytes part None = (part ≡ bytes) × IsPart (lines_of bytes)
IsFirstPart bytes part (Some rest) =
    (front : List (List ℕ)) × (line : List ℕ) × IsPart front × (concat front ≡ part)
    × IsSeparator line
    × (bytes ≡ part ++ (line ++ rest)) × (lines_of bytes ≡ front ++ line ∷ lines_of rest)
