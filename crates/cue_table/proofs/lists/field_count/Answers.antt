use Rattle.std.proofs.Common.{rules}
use Rattle.std.proofs.lemmas.List.Sorted.{IsPartitionPoint-from_clause}
use Rattle.cue_table.proofs.Fields.{fields_found, fields_within}
use Rattle.cue_table.proofs.Nodes.{is_label, labels_first}
use Rattle.cue_table.proofs.lists.field_count.Goals as goal

pub returns : goal.returns
returns g c =
    let cs = c.args.children.now in
    let point = IsPartitionPoint-from_clause (λ child. is_label child.step) cs c.partition_point.result c.partition_point.ensures.partitioned (labels_first cs c.requires) (λ a r q k. search rules) in
    record {
      in_range = c.partition_point.ensures.bound;
      within = fields_within cs c.partition_point.result point;
      same = λ text. fields_found text cs c.partition_point.result c.requires point;
    }
