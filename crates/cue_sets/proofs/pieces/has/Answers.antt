use Rattle.std.proofs.Common.{pos, rules, sym, refl, ◌∙◌, w64}
use Rattle.std.specs.Prelude.{int_lt, FitsSigned, slice_index_or}
use Rattle.std.proofs.lemmas.Bool.{le-ltb}
use Rattle.std.proofs.lemmas.Int.{to_z-of_z}
use Rattle.std.proofs.lemmas.List.Sorted.{IsPartitionPoint-from_clause}
use Rattle.cue_sets.specs.Pieces.{least}
use Rattle.cue_sets.proofs.Search.{IsPlace, IsPartitionedBy-ends, IsPlace-point, is_member-at, is_member-past}
use Rattle.cue_sets.proofs.pieces.has.Goals as goal

pub returns-then-at-pieces : goal.returns-then-at-pieces
returns-then-at-pieces c =
    let pieces = c.args.pieces.now in let n = c.args.number in
    let place : IsPlace pieces n c.partition_point-at.result = IsPlace-point pieces n c.partition_point-at.result (IsPartitionPoint-from_clause (λ piece. int_lt piece.1 n) pieces c.partition_point-at.result c.partition_point-at.ensures.partitioned (IsPartitionedBy-ends pieces n c.requires) (λ a r q k. search rules)) in
    let member = is_member-at least pieces n c.partition_point-at.result (pos 0, pos 0) c.requires place c.if-at-pieces.true in
    let fits : FitsSigned w64 (slice_index_or pieces c.partition_point-at.result (pos 0, pos 0)).0 = search rules in
    rw (member, to_z-of_z w64 _ fits, to_z-of_z w64 n c.ranges.number) refl

pub returns-else-at-pieces : goal.returns-else-at-pieces
returns-else-at-pieces c =
    let pieces = c.args.pieces.now in let n = c.args.number in
    let place : IsPlace pieces n c.partition_point-at.result = IsPlace-point pieces n c.partition_point-at.result (IsPartitionPoint-from_clause (λ piece. int_lt piece.1 n) pieces c.partition_point-at.result c.partition_point-at.ensures.partitioned (IsPartitionedBy-ends pieces n c.requires) (λ a r q k. search rules)) in
    le-ltb _ _ c.if-at-pieces.false ∙ sym (is_member-past pieces n c.partition_point-at.result place c.if-at-pieces.false)
