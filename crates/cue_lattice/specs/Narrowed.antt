-- What a value becomes that takes another one over.
use Rattle.std.specs.Prelude.{◌↔◌, ◌⊎◌}
use Rattle.cue_lattice.specs.declared.narrow.Narrowed.{Narrowed}
use Rattle.cue_lattice.specs.declared.narrow.Narrowed.TheVariants.{Unchanged, To}

-- Either the value stays as it is, and refuses all that the other refuses; or it becomes one that
-- refuses exactly what one of the two refuses.
abbrev pub IsNarrowedBy : {N Q : Type 0} → (N → Q → Type 0) → N → N → Narrowed N → Type 0
IsNarrowedBy {N} {Q} refuses self other Unchanged =
    (question : Q) → refuses other question → refuses self question
IsNarrowedBy {N} {Q} refuses self other (To met) =
    (question : Q) → refuses met question ↔ (refuses self question ⊎ refuses other question)

-- the value after it took the other one over
abbrev pub value_after : {N : Type 0} → N → Narrowed N → N
value_after before Unchanged = before
value_after before (To met) = met
