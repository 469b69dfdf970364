-- Two lists of texts of which one ends before the other begins.
use Rattle.std.specs.Prelude.{◌≡◌, ℕ, List, [], ◌∷◌}
use Rattle.std.specs.declared.cmp.Ordering.TheVariants.{Less}
use Rattle.cue_sets.specs.Texts.{text_cmp}

-- each text of the list is below this one
abbrev pub AreBelow : List (List ℕ) → List ℕ → Type 0
AreBelow [] text = Unit {0}
AreBelow (first ∷ texts) text = (text_cmp first text ≡ Less) × AreBelow texts text

-- each text of the left list is below the first one of the right list, where that has one
abbrev pub AreApart : List (List ℕ) → List (List ℕ) → Type 0
AreApart left [] = Unit {0}
AreApart left (text ∷ texts) = AreBelow left text
