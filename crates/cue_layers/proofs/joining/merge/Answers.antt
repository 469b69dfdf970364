use Rattle.std.proofs.Common.{◌≡◌, ◌∷◌, ◌++◌, [], subst, sym, rules, arith}
use Rattle.cue_layers.specs.Inner.Merging.{IsMerged}
use Rattle.cue_layers.proofs.Merged.{IsSoFar, more_taken, own_order, others_order, left_ties, all_taken}
use Rattle.cue_layers.proofs.joining.merge.Goals as goal

pub loop-layer-preserved : goal.loop-layer-preserved
loop-layer-preserved c =
    let own = c.args.own.items in
    let others = c.args.others.items in
    let own_left = c.loop-layer.own.items in
    let others_left = c.loop-layer.others.items in
    let own_next = c.take_last.new.own.items in
    let others_next = c.take_last.new.others.items in
    let taken = c.loop-layer.merged.items in
    let x = c.in-Some.layer in
    let i = c.loop-layer.invariant in
    let takes = c.in-Some.ensures in
    let items : c.push.new.self.items ≡ taken ++ x ∷ [] = search rules in
    record {
      own = own_order own others own_left others_left own_next others_next taken x i.so_far takes i.own;
      others = others_order own others own_left others_left own_next others_next taken x i.so_far takes i.others;
      ties = left_ties own others own_left others_left own_next others_next taken x i.so_far takes i.ties;
      so_far = subst (IsSoFar own others own_next others_next) (sym items) (more_taken own others own_left others_left own_next others_next taken x i.so_far takes);
      room = omega (arith, c.push.ensures.capacity, takes.shorter, c.loop-layer.own.ok, c.loop-layer.others.ok, c.loop-layer.merged.ok, c.push.new.self.ok, c.take_last.new.own.ok, c.take_last.new.others.ok, i.room);
    }

pub returns : goal.returns
returns c =
    let own = c.args.own.items in
    let others = c.args.others.items in
    subst (IsMerged own others) (sym c.reverse.ensures.items)
    (all_taken own others c.loop-layer.own.items c.loop-layer.others.items c.loop-layer.merged.items c.loop-layer.invariant.so_far c.in_default.ensures)
