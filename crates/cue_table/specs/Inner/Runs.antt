-- Elements behind an index.
use Rattle.std.specs.Prelude.{ℕ, ◌≤◌}
use Rattle.cue_lattice.specs.Path.{label, index}
use Rattle.cue_table.specs.Tree.{Children, none, child}

-- all branches are elements from an index on
abbrev pub AreFrom : {R : Type 0} → ℕ → Children R → Type 0
AreFrom n none = Unit {0}
AreFrom n (child (label text) tree children) = ⊥
AreFrom n (child (index i) tree children) = (n ≤ i) × AreFrom n children
