use Rattle.std.proofs.Common.{rules, arith}
use Rattle.std.proofs.lemmas.Int.{ints, clamps}
use Rattle.cue_sets.proofs.PieceTests.{is_last}
use Rattle.cue_sets.proofs.pieces.is_canonical.Goals as goal

pub returns-in_default-checked_add : goal.returns-in_default-checked_add
returns-in_default-checked_add c =
    let last = is_last c.is_empty.result _ c.in-Some.field-0-0.now c.in-Some.later.now c.loop-first.rest.now (search rules) c.is_empty.ensures (omega (arith, ints, clamps)) (omega (arith, ints, clamps)) (omega (arith, ints, clamps)) (grind (arith, ints, clamps, c.in_default-checked_add.ensures)) in
    (λ h. c.loop-first.invariant.0 (last.0 h), λ a. last.1 (c.loop-first.invariant.1 a))
