use Rattle.std.proofs.Common.{◌<◌, ℕ, List, All}
use Rattle.cue_lattice.specs.Limits.{step_limit}
use Rattle.cue_lattice.specs.OneOf.{OneOf}
use Rattle.cue_lattice.specs.Path.{label, index, Path}
use Rattle.cue_lattice.specs.Question.{Question}
use Rattle.cue_table.specs.Depth.{tree_depth}
use Rattle.cue_policies.proofs.Branches.{AtStep, ItemRefuses, OwnRefuses}
use Rattle.cue_policies.proofs.Gains.{Left}
use Rattle.cue_policies.proofs.Gathering.{AreBelow}
use Rattle.cue_policies.proofs.place.elements_of.Given as goal

-- the elements so far, and those that are left, are all that stand by themselves
abbrev pub invariant-loop-number : goal.invariant-loop-number
invariant-loop-number l = record {
  gains : (i : ℕ) (path : Path) (question : Question)
      → Left (OneOf (AtStep (index i) path question) l.own.items) (ItemRefuses i path question) l.number-iterator (OwnRefuses l.branch i path question);
  no_labels : (text : List ℕ) (path : Path) (question : Question) → ¬ OneOf (AtStep (label text) path question) l.own.items;
  low : All (λ one. tree_depth one.1 < step_limit) l.own.items;
  left : AreBelow step_limit l.number-iterator;
}
