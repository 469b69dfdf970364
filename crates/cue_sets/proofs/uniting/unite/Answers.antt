use Rattle.std.proofs.Common.{◌≡◌, ◌∷◌, pos, ◌+ℤ◌, ◌≤ℤ◌, ◌<ℤ◌, subst, sym, ◌∙◌, arith, rules}
use Rattle.std.proofs.lemmas.Bool.{false≢true, eqb-true, eqb-false}
use Rattle.std.proofs.lemmas.Int.{ints, clamps}
use Rattle.cue_sets.specs.Pieces.{least}
use Rattle.cue_sets.proofs.United.{rises, RisesFrom, AreUnited-first, AreUnited-joined, AreUnited-apart, AreUnited-all}
use Rattle.cue_sets.proofs.uniting.unite.Goals as goal
use Rattle.cue_sets.proofs.uniting.unite.Goals.{then-next-held, else-next-held}

pub loop-next-init : goal.loop-next-init
loop-next-init c =
    let sorted = c.args.sorted.now in
    let is : sorted ≡ c.in-Some.start.now ∷ c.in-Some.later.now = search rules in
    rw c.in_ok-pieces.ensures.items
    (AreUnited-first c.in-Some.start.now c.in-Some.later.now sorted is (rises least sorted c.requires.pieces c.requires.sorted (λ d h. (c.requires.pieces 0 d h).low)))

pub loop-next-preserved-then-next-held-2 : goal.loop-next-preserved-then-next-held-2
loop-next-preserved-then-next-held-2 c =
    let held = c.loop-next.held in
    let next = c.in-Some-split_first.next.now in
    let later = c.in-Some-split_first.later.now in
    let is : c.loop-next.rest.now ≡ next ∷ later = search rules in
    let rising : RisesFrom held.0 (next ∷ later) = subst (RisesFrom held.0) is c.loop-next.invariant.rising in
    let low = c.loop-next.invariant.piece.low in let some = c.loop-next.invariant.piece.some in let high = c.loop-next.invariant.piece.high in
    let next_low = rising.1.low in let next_some = rising.1.some in let next_high = rising.1.high in
    let value = c.max.ensures.value in
    let touch : next.0 ≤ℤ (held.1 +ℤ pos 1) =
    elim c.if-next-held.branch [
      | then-next-held w ↦ let t = w.if-next-held.true in omega (arith, ints)
      | else-next-held w ↦ let t = eqb-true _ _ (sym w.value-is ∙ c.if-next-held-2.true) in omega (arith, ints)
    ] in
    AreUnited-joined c.loop-next.pieces.items held next _ c.loop-next.rest.now later c.args.sorted.now is c.loop-next.invariant touch
    (omega (arith, ints, clamps)) (omega (arith, ints, clamps)) (λ h. omega (arith, ints, clamps))

pub loop-next-preserved : goal.loop-next-preserved
loop-next-preserved c =
    let held = c.loop-next.held in
    let next = c.in-Some-split_first.next.now in
    let later = c.in-Some-split_first.later.now in
    let is : c.loop-next.rest.now ≡ next ∷ later = search rules in
    let rising : RisesFrom held.0 (next ∷ later) = subst (RisesFrom held.0) is c.loop-next.invariant.rising in
    let low = c.loop-next.invariant.piece.low in let some = c.loop-next.invariant.piece.some in let high = c.loop-next.invariant.piece.high in
    let next_low = rising.1.low in let next_some = rising.1.some in let next_high = rising.1.high in
    let apart : (held.1 +ℤ pos 1) <ℤ next.0 =
    elim c.if-next-held.branch [
      | then-next-held w ↦ absurd (false≢true (sym c.if-next-held-2.false ∙ w.value-is ∙ w.if-next-held.true))
      | else-next-held w ↦ let f = w.if-next-held.false in let t = eqb-false _ _ (sym w.value-is ∙ c.if-next-held-2.false) in omega (arith, ints)
    ] in
    rw c.in_ok-push.ensures.items
    (AreUnited-apart c.loop-next.pieces.items held next c.loop-next.rest.now later c.args.sorted.now is c.loop-next.invariant apart)

pub returns-clause-canonical : goal.returns-clause-canonical
returns-clause-canonical c =
    rw c.in_ok-push-2.ensures.items
    (AreUnited-all c.loop-next.pieces.items c.loop-next.held c.loop-next.rest.now c.args.sorted.now (c.in_default-split_first.ensures.cases) c.loop-next.invariant).0

pub returns-clause-members : goal.returns-clause-members
returns-clause-members c =
    rw c.in_ok-push-2.ensures.items
    (AreUnited-all c.loop-next.pieces.items c.loop-next.held c.loop-next.rest.now c.args.sorted.now (c.in_default-split_first.ensures.cases) c.loop-next.invariant).1
