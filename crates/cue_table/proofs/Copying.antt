-- Parts of a rest are smaller than the rest.
use Rattle.std.specs.Prelude.{◌+◌, ◌*◌, ◌≤◌, List, [], ◌∷◌}
use Rattle.std.proofs.Common.{arith}
use denote.Param.Weighed.{most}
use Rattle.cue_lattice.specs.declared.narrow.Narrow.{Ghosts}
use Rattle.cue_table.specs.declared.child.Child.TheDeep.{deep-ElementRun, size-Onward, size-ElementRun}
use Rattle.cue_table.specs.declared.node.Onward.{Onward}
use Rattle.cue_table.specs.declared.node.ElementRun.{ElementRun}

module _ {R Q : Type 0} (narrow : Ghosts R Q) where
  runs_fall : (rs : List (ElementRun R Q)) → most (λ (x : ElementRun R Q). size-ElementRun R Q narrow x) rs ≤ 3 * most (λ (x : ElementRun R Q). deep-ElementRun R Q narrow x) rs + 1
  runs_fall [] = omega arith
  runs_fall (r ∷ rs) = omega (arith, runs_fall rs)

  pub onward_falls : (o : Onward R Q) → most (λ (x : ElementRun R Q). size-ElementRun R Q narrow x) o.runs.items + 1 ≤ size-Onward R Q narrow o
  onward_falls o = omega (arith, runs_fall o.runs.items)
