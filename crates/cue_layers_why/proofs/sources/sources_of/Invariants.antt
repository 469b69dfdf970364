use Rattle.std.proofs.Common.{take}
use Rattle.cue_layers_why.specs.Inner.Pairs.{AreSources}
use Rattle.cue_layers_why.proofs.sources.sources_of.Given as goal

abbrev pub invariant-loop-layer : goal.invariant-loop-layer
invariant-loop-layer l = AreSources (take l.layer-index l.layers) l.sources.items
