use Rattle.std.proofs.Common.{arith}
use Rattle.cue_layers_why.proofs.Pairs.{sources_more, sources_all}
use Rattle.cue_layers_why.proofs.sources.sources_of.Goals as goal

pub loop-layer-preserved : goal.loop-layer-preserved
loop-layer-preserved c =
    sources_more c.args.layers.now c.loop-layer.layer-index c.layer-item.result c.loop-layer.sources.items c.push.new.self.items c.in_ok-source_of.field-0 c.loop-layer-test.true c.layer-item.is c.loop-layer.invariant
    c.in_ok-source_of.ensures c.in_ok-push.ensures.items

pub returns : goal.returns
returns c = sources_all c.args.layers.now c.loop-layer.layer-index c.loop-layer.sources.items (omega (arith, c.loop-layer-test.false)) c.loop-layer.invariant
