use Rattle.std.proofs.Common.{ℕ, ◌⊎◌}
use Rattle.cue_lattice.specs.Path as paths
use Rattle.cue_lattice.specs.Path.{index}
use Rattle.cue_table.specs.Tree.{below, labels_of}
use Rattle.cue_eval.specs.Inner.Adding.{IsAmong}
use Rattle.cue_eval.proofs.LabelTables.{IsLabelOf}
use Rattle.cue_eval.proofs.left_out.ClosingPlace.own_labels.Given as goal

-- the labels so far are there, and nothing else
abbrev pub invariant-loop-label : goal.invariant-loop-label
invariant-loop-label l =
    ((step : paths.Step) → IsLabelOf (labels_of (below l.self.own)) step → IsAmong l.steps.items step ⊎ IsLabelOf l.label-iterator step)
    × ((i : ℕ) → ¬ IsAmong l.steps.items (index i))
