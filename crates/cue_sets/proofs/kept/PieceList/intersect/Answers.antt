use Rattle.std.proofs.Common.{ℤ, rules}
use Rattle.cue_sets.proofs.OnePiece.{EndsFit, canonical_piece, common_ends, no_common_ends}
use Rattle.cue_sets.proofs.kept.PieceList.intersect.Goals as goal

pub returns-then-last-first-clause-members : goal.returns-then-last-first-clause-members
returns-then-last-first-clause-members c =
    let piece : ℤ × ℤ = (c.max-first.result, c.min-last.result) in
    let fits : EndsFit piece = (record { sfits = c.max-first.type_inv }, record { sfits = c.min-last.type_inv }) in
    let args : EndsFit c.args.left × EndsFit c.args.right = search rules in
    rw c.none.ensures
    (no_common_ends c.args.left c.args.right piece.0 piece.1 args.0 args.1 fits c.max-first.ensures.value c.min-last.ensures.value c.if-last-first.true)

pub returns-clause-canonical : goal.returns-clause-canonical
returns-clause-canonical c =
    let piece : ℤ × ℤ = (c.max-first.result, c.min-last.result) in
    let fits : EndsFit piece = (record { sfits = c.max-first.type_inv }, record { sfits = c.min-last.type_inv }) in
    rw c.one.ensures (canonical_piece piece.0 piece.1 fits.0 fits.1 c.if-last-first.false)

pub returns-clause-members : goal.returns-clause-members
returns-clause-members c =
    let piece : ℤ × ℤ = (c.max-first.result, c.min-last.result) in
    let fits : EndsFit piece = (record { sfits = c.max-first.type_inv }, record { sfits = c.min-last.type_inv }) in
    let args : EndsFit c.args.left × EndsFit c.args.right = search rules in
    rw c.one.ensures
    (common_ends c.args.left c.args.right piece.0 piece.1 args.0 args.1 fits c.max-first.ensures.value c.min-last.ensures.value)
