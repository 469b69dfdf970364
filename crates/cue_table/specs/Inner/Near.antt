-- How far a branch is looked for from the front of a list on.
use Rattle.std.specs.Prelude.{◌≡◌, ◌≢◌, ◌<◌, ◌-◌, ◌⊎◌, ℕ, List, length, slice_index_or}
use Rattle.std.specs.declared.cmp.Ordering.TheVariants.{Less}
use Rattle.cue_lattice.specs.Path as paths
use Rattle.cue_lattice.specs.Path.{step_cmp}
use Rattle.cue_row.specs.Steps.{step_of}
use Rattle.cue_table.specs.Inner.Child.{Child}

-- it is the end of the list, or the branch before it stands at the step or behind it
abbrev pub ReachesNear : {R : Type 0} → List (Child R) → paths.Step → ℕ → Type 0
ReachesNear {R} children step end =
    (end ≡ length children)
    ⊎ ((0 < end) × (end < length children)
    × ((d : Child R) → step_cmp (step_of (slice_index_or children (end - 1) d).step) step ≢ Less))
