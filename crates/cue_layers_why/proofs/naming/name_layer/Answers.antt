use Rattle.std.proofs.Common.{map}
use Rattle.cue_row.specs.Steps.{step_of}
use Rattle.cue_layers_why.proofs.Pairs.{shown_deep}
use Rattle.cue_layers_why.proofs.naming.name_layer.Goals as goal

pub layer_parts-requires : goal.layer_parts-requires
layer_parts-requires c = shown_deep c.args.source.kind c.args.source.table.now (map step_of c.args.path.now) c.in_ok-shown_parts.field-0.items c.root-root.ensures.depth c.in_ok-shown_parts.ensures
