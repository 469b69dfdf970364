use Rattle.std.proofs.Common.{map, suc, arith}
use Rattle.std.specs.Vec.Iter.{into_iter_items}
use Rattle.cue_why.specs.Inner.Saying.{pair_of}
use Rattle.cue_layers_why.proofs.Pairs.{parts_more}
use Rattle.cue_layers_why.proofs.naming.layer_parts.Goals as goal

pub loop-part-preserved : goal.loop-part-preserved
loop-part-preserved c =
    let first = c.in-Some.ensures.steps.0 in
    record {
      same = parts_more c.loop-part.own.items c.push.new.self.items c.in_ok-layer_part.field-0 (into_iter_items c.loop-part.part-iterator) (into_iter_items c.next.new.self) c.in-Some.part (map pair_of c.args.parts.items)
          first c.in_ok-layer_part.ensures c.in_ok-push.ensures.items c.loop-part.invariant.same;
      low = λ k d less. (rw first at c.loop-part.invariant.low) (suc k) d (omega arith);
    }
