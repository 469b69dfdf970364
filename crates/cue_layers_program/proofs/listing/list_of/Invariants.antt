use Rattle.std.proofs.Common.{take}
use Rattle.std.specs.Prelude.{string_bytes}
use Rattle.cue_layers_program.specs.Answers.{AreLines}
use Rattle.cue_layers_program.proofs.listing.list_of.Given as goal

abbrev pub invariant-loop-layer : goal.invariant-loop-layer
invariant-loop-layer l = AreLines (take l.layer-index l.layers) (string_bytes l.text)
