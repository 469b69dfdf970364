use Rattle.std.proofs.Common.{map}
use Rattle.std.specs.Vec.Iter.{into_iter_items}
use Rattle.cue_row.specs.Steps.{step_of}
use Rattle.cue_layers_why.proofs.Pairs.{AreNamedSoFar}
use Rattle.cue_layers_why.proofs.naming.name_layers.Given as goal

abbrev pub invariant-loop-source : goal.invariant-loop-source
invariant-loop-source l = AreNamedSoFar (map step_of l.path) l.fn.sources.items (into_iter_items l.source-iterator) l.named.items
