use Rattle.std.specs.Prelude.{string_bytes}
use Rattle.cue_layers_program.proofs.Lines.{list_more}
use Rattle.cue_layers_program.proofs.listing.list_of.Goals as goal

pub loop-layer-preserved : goal.loop-layer-preserved
loop-layer-preserved c =
    list_more c.args.layers.now c.loop-layer.layer-index c.layer-item.result (string_bytes c.loop-layer.text) (string_bytes c.push_line.new.text) c.loop-layer-test.true c.layer-item.is
    c.loop-layer.invariant c.in_ok-push_line.ensures
