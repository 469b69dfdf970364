-- A walk of two ascending lists of texts.
use Rattle.std.specs.Prelude.{◌≡◌, ◌<◌, ◌++◌, ℕ, Bool, true, false, List, [], length, drop, take}
use Rattle.std.specs.declared.cmp.Ordering.{Ordering}
use Rattle.std.specs.declared.cmp.Ordering.TheVariants.{Less, Equal, Greater}
use Rattle.cue_sets.specs.Inner.Merge.{merge_texts}
use Rattle.cue_sets.specs.declared.merging.MergeWalk.{MergeWalk}
use Rattle.cue_sets.specs.declared.merging.MergeWalk.TheVariants.{Stays, Moves}

-- the texts that are left
abbrev pub left_of : MergeWalk → List (List ℕ)
left_of (Stays texts) = texts.now
left_of (Moves texts) = texts.items

-- the next of the texts, where it is kept
abbrev pub next_if : Bool → List (List ℕ) → List (List ℕ)
next_if true texts = take 1 texts
next_if false texts = []

-- Which text comes next: each merge goes on with that of the left list, with the one that both
-- have, or with that of the right list.
abbrev pub IsNext : Ordering → List (List ℕ) → List (List ℕ) → Type 0
IsNext Less left right =
    (0 < length left)
    × ((kept : Bool → Bool → Bool)
    → merge_texts kept left right
    ≡ next_if (kept true false) left ++ merge_texts kept (drop 1 left) right)
IsNext Equal left right =
    ((0 < length left) × (0 < length right))
    × ((kept : Bool → Bool → Bool)
    → merge_texts kept left right
    ≡ next_if (kept true true) right ++ merge_texts kept (drop 1 left) (drop 1 right))
IsNext Greater left right =
    (0 < length right)
    × ((kept : Bool → Bool → Bool)
    → merge_texts kept left right
    ≡ next_if (kept false true) right ++ merge_texts kept left (drop 1 right))
