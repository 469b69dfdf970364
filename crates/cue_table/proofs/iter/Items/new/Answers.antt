use Rattle.std.proofs.Common.{rules, refl}
use Rattle.std.proofs.lemmas.List.Sorted.{IsPartitionPoint-from_clause}
use Rattle.cue_table.specs.declared.cursor.BranchCursor.{BranchCursor}
use Rattle.cue_table.specs.Form.{IsRowKept}
use Rattle.cue_table.proofs.Nodes.{is_label, labels_first}
use Rattle.cue_table.proofs.Ways.{items_way, own_way}
use Rattle.cue_table.proofs.iter.Items.new.Goals as goal

pub invariant_of-result : goal.invariant_of-result
invariant_of-result g c =
    let P = IsRowKept g.R.Narrow.refuses g.R.Narrow.is_value in
    let cs = c.args.left.own.now in
    let k = c.partition_point-labels.result in
    let point = IsPartitionPoint-from_clause (λ child. is_label child.step) cs k c.partition_point-labels.ensures.partitioned (labels_first cs (own_way P c.args.left c.requires.begun c.requires.form)) (λ a r q k. search rules) in
    let left : BranchCursor _ _ = record { begun = c.args.left.begun; own = c.split_at.result.1; runs = c.args.left.runs } in
    let way = items_way P c.args.left left k c.requires.begun c.requires.begun c.split_at.ensures.back refl point c.requires.form in
    (way.0, way.1)

pub returns : goal.returns
returns g c =
    let P = IsRowKept g.R.Narrow.refuses g.R.Narrow.is_value in
    let cs = c.args.left.own.now in
    let k = c.partition_point-labels.result in
    let point = IsPartitionPoint-from_clause (λ child. is_label child.step) cs k c.partition_point-labels.ensures.partitioned (labels_first cs (own_way P c.args.left c.requires.begun c.requires.form)) (λ a r q k. search rules) in
    let left : BranchCursor _ _ = record { begun = c.args.left.begun; own = c.split_at.result.1; runs = c.args.left.runs } in
    let way = items_way P c.args.left left k c.requires.begun c.requires.begun c.split_at.ensures.back refl point c.requires.form in
    way.2
