use Rattle.cue_lattice.specs.World.{AllAlong}
use Rattle.cue_layers.specs.Inner.Merging.{IsTied}
use Rattle.cue_layers.proofs.joining.with_ties.Given as goal

abbrev pub invariant-loop-other : goal.invariant-loop-other
invariant-loop-other l = AllAlong (IsTied l.own) l.yielded l.tied.items
