use Rattle.std.proofs.Common.{arith, ◌≡◌, ◌+◌, ◌-◌, ◌^◌, ◌<◌, min, length, get_or, ◌∙◌, add-one}
use Rattle.std.proofs.Math.ListN.{length-set}
use Rattle.std.proofs.lemmas.List.{get_or_read}
use Rattle.cue_scope.proofs.Nodes.{in_at}
use Rattle.cue_scope.proofs.Counting.{counting_more}
use Rattle.cue_scope.proofs.counts.count.Goals as goal

pub index-requires : goal.index-requires
index-requires c =
    let inside = c.requires (get_or c.args.nodes.now c.loop-node.node-index 0) (in_at c.args.nodes.now c.loop-node.node-index c.loop-node-test.true) in
    let same = c.loop-node.invariant.lengths in
    omega arith

pub index_mut-requires : goal.index_mut-requires
index_mut-requires c =
    let inside = c.requires (get_or c.args.nodes.now c.loop-node.node-index 0) (in_at c.args.nodes.now c.loop-node.node-index c.loop-node-test.true) in
    let same = c.loop-node.invariant.lengths in
    omega arith

pub loop-node-preserved : goal.loop-node-preserved
loop-node-preserved c =
    let n = get_or c.args.nodes.now c.loop-node.node-index 0 in
    let same = c.loop-node.invariant.lengths in
    let inside : get_or c.args.nodes.now c.loop-node.node-index 0 < length c.loop-node.counts.items =
    let first = c.requires (get_or c.args.nodes.now c.loop-node.node-index 0) (in_at c.args.nodes.now c.loop-node.node-index c.loop-node-test.true) in omega arith in
    let read = get_or_read c.loop-node.counts.items n c.index.result.now inside c.index.ensures 0 in
    let one : c.saturating_add.result ≡ min (get_or c.loop-node.counts.items n 0 + 1) (2 ^ 64 - 1) = let added = c.saturating_add.ensures in omega arith in
    rw add-one (record {
      lengths = length-set c.loop-node.counts.items n c.saturating_add.result ∙ same;
      counted = counting_more c.args.counts.now.items c.args.nodes.now c.loop-node.node-index c.loop-node.counts.items c.saturating_add.result c.loop-node-test.true inside one c.loop-node.invariant.counted;
    })
