use Rattle.std.proofs.Common.{◌≡◌, ◌∷◌, ap, ◌∙◌, to_z, of_z, w64, rules, arith}
use Rattle.std.proofs.lemmas.Int.{ints, clamps}
use Rattle.cue_sets.specs.Pieces.{is_member}
use Rattle.cue_sets.proofs.LeftOut.{AreGaps-more, AreGaps-last, AreGaps-all}
use Rattle.cue_sets.proofs.gaps.put_gaps.Goals as goal

pub returns-in_default-checked_add-clause-members : goal.returns-in_default-checked_add-clause-members
returns-in_default-checked_add-clause-members c =
    let piece = c.in-Some.field-0-0.now in
    let later = c.in-Some.later.now in
    let is : c.loop-first.rest.now ≡ piece ∷ later = search rules in
    AreGaps-last c.loop-first.gaps.items c.put_before.new.gaps.items (to_z w64 c.loop-first.from-bits) (to_z w64 (of_z w64 piece.0)) piece c.loop-first.rest.now later c.args.gaps.now.items c.args.pieces.now is c.loop-first.invariant
    (omega (arith, ints)) c.in_ok-put_before.ensures.members (grind (arith, ints, clamps, c.in_default-checked_add.ensures))

pub loop-first-preserved : goal.loop-first-preserved
loop-first-preserved c =
    let piece = c.in-Some.field-0-0.now in
    let later = c.in-Some.later.now in
    let is : c.loop-first.rest.now ≡ piece ∷ later = search rules in
    AreGaps-more c.loop-first.gaps.items c.put_before.new.gaps.items (to_z w64 c.loop-first.from-bits) (to_z w64 (of_z w64 piece.0)) _ piece c.loop-first.rest.now later c.args.gaps.now.items c.args.pieces.now is c.loop-first.invariant
    c.in_ok-put_before.ensures.pieces (omega (arith, ints)) c.in_ok-put_before.ensures.members (grind (arith, ints, clamps, c.in-Some-checked_add.ensures)) (omega (arith, ints, clamps))

pub returns-clause-members : goal.returns-clause-members
returns-clause-members c = λ n.
    ap (λ pieces. is_member pieces n) c.in_ok-push.ensures.items
    ∙ AreGaps-all c.loop-first.gaps.items _ c.loop-first.rest.now c.args.gaps.now.items c.args.pieces.now (c.in_default.ensures.cases) c.loop-first.invariant n
