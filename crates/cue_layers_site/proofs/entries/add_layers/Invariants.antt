use Rattle.std.proofs.Common.{◌++◌, List, map, take}
use Rattle.cue_layers.specs.declared.layer.Layer.{Layer}
use Rattle.cue_layers.specs.Maps.{IsJoin}
use Rattle.cue_layers_site.specs.Entries.{AreLayersIn}
use Rattle.cue_layers_site.proofs.entries.add_layers.Given as goal

abbrev pub invariant-loop-entry : goal.invariant-loop-entry
invariant-loop-entry l = (front layers : List Layer) → IsJoin front layers l.fn.joined
    → (more : List Layer) × AreLayersIn (map (λ v. v.items) (take l.entry-index l.entries)) more × IsJoin front (layers ++ more) l.joined
