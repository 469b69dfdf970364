use Rattle.std.proofs.Common.{rules, ◌≡◌, None, arith}
use Rattle.cue_row.proofs.SmallRows.{parts_of_anything, parts_of_struct}
use Rattle.cue_row.proofs.parts.RowParts.small.Goals as goal

pub returns-in-true-true-clause-parts : goal.returns-in-true-true-clause-parts
returns-in-true-true-clause-parts c =
    let row = c.args.self.now in
    let labels : row.labels ≡ None = search rules in
    let most : row.most ≡ None = search rules in
    parts_of_anything row c.known.ensures c.known-2.ensures (c.is_free.ensures.0 c.if-is_free.true) (c.is_free-then-is_free.ensures.0 c.if-is_free-2.true)
    c.in-true-true.is-0 c.in-true-true.is-1 labels (omega (arith, c.if-self-gt0.false)) most

pub returns-in-true-false-clause-parts : goal.returns-in-true-false-clause-parts
returns-in-true-false-clause-parts c =
    let row = c.args.self.now in
    let labels : row.labels ≡ None = search rules in
    let most : row.most ≡ None = search rules in
    parts_of_struct row c.known.ensures c.known-2.ensures (c.is_empty.ensures.0 c.if-is_empty.true) (c.is_empty-then-is_empty.ensures.0 c.if-is_empty-2.true)
    c.in-true-false.is-0 c.in-true-false.is-1 labels (omega (arith, c.if-self-gt0.false)) most
