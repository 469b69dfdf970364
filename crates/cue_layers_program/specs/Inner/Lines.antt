-- Sets of lines.
use Rattle.std.specs.Prelude.{◌≡◌, ℕ, List}
use Rattle.std.specs.Borrow.{Bor}
use Rattle.std.specs.BTreeSet.{BTreeSet, contains}
use Rattle.std.specs.Cmp.Lexicographic.{slice_cmp}
use Rattle.std.specs.Ordering.{nat_cmp}
use Rattle.cue_layers_program.specs.Tries.{is_among}

-- the set has just these lines
abbrev pub HasLines : List (List ℕ) → BTreeSet (Bor (List ℕ)) → Type 0
HasLines lines set =
    (line : Bor (List ℕ))
    → contains (λ a b. slice_cmp nat_cmp a.now b.now) set line ≡ is_among lines line.now
