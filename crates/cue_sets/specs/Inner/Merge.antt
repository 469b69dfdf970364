-- Two ascending lists of texts as one.
use Rattle.std.specs.Prelude.{ℕ, Bool, true, false, List, [], ◌∷◌}
use Rattle.std.specs.declared.cmp.Ordering.{Ordering}
use Rattle.std.specs.declared.cmp.Ordering.TheVariants.{Less, Equal, Greater}
use Rattle.cue_sets.specs.Inner.Combination.{combination_keeps}
use Rattle.cue_sets.specs.Texts.{text_cmp, is_member_if}
use Rattle.cue_sets.specs.declared.combination.Combination.{Combination}

abbrev pub prepended_if : Bool → List ℕ → List (List ℕ) → List (List ℕ)
prepended_if true text texts = text ∷ texts
prepended_if false text texts = texts

-- the texts of the right list alone, where the left one has no more
abbrev pub right_merged : (Bool → Bool → Bool) → List (List ℕ) → List (List ℕ)
right_merged kept [] = []
right_merged kept (y ∷ ys) = prepended_if (kept false true) y (right_merged kept ys)

-- the texts from x on, by how x compares with the first of the right list; `more` merges what comes
-- after x
abbrev pub merged_at : (Bool → Bool → Bool) → List ℕ → (List (List ℕ) → List (List ℕ)) → Ordering
    → List ℕ → List (List ℕ) → List (List ℕ) → List (List ℕ)
merged_at kept x more Less y ys later = prepended_if (kept true false) x (more (y ∷ ys))
merged_at kept x more Equal y ys later = prepended_if (kept true true) x (more ys)
merged_at kept x more Greater y ys later = prepended_if (kept false true) y later

abbrev pub merged_from : (Bool → Bool → Bool) → List ℕ → (List (List ℕ) → List (List ℕ))
    → List (List ℕ) → List (List ℕ)
merged_from kept x more [] = prepended_if (kept true false) x (more [])
merged_from kept x more (y ∷ ys) =
    merged_at kept x more (text_cmp x y) y ys (merged_from kept x more ys)

-- the texts of both lists in their order, of which those are kept that `kept` says, by whether the
-- left list has the text and whether the right one has
abbrev pub merge_texts : (Bool → Bool → Bool) → List (List ℕ) → List (List ℕ) → List (List ℕ)
merge_texts kept [] = right_merged kept
merge_texts kept (x ∷ xs) = merged_from kept x (merge_texts kept xs)

-- Whether a combination of two sets lists a text, by whether each of the two lists it. `left` and
-- `right` say which of the two have all texts but the listed ones.
abbrev pub combination_lists : Combination → Bool → Bool → Bool → Bool → Bool
combination_lists how left right in_left in_right =
    is_member_if (combination_keeps how left right) (combination_keeps how (is_member_if left in_left) (is_member_if right in_right))
