use Rattle.std.proofs.Common.{map}
use Rattle.std.specs.Vec.Iter.{into_iter_items}
use Rattle.cue_row.specs.Steps.{step_of}
use Rattle.cue_layers_why.proofs.Pairs.{named_more}
use Rattle.cue_layers_why.proofs.naming.name_layers.Goals as goal

pub loop-source-preserved : goal.loop-source-preserved
loop-source-preserved c =
    named_more (map step_of c.args.path.now) c.args.sources.items (into_iter_items c.loop-source.source-iterator) (into_iter_items c.next.new.self) c.loop-source.named.items c.push.new.self.items c.in-Some.source
    c.in_ok-name_layer.field-0 c.in-Some.ensures.steps.0 c.in_ok-name_layer.ensures c.in_ok-push.ensures.items c.loop-source.invariant
