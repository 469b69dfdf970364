use Rattle.std.proofs.Common.{to_z, of_z, w64, sym, subst, ◌∙◌, arith}
use Rattle.std.proofs.lemmas.Int.{ints}
use Rattle.cue_sets.specs.Pieces.{IsCanonical}
use Rattle.cue_sets.proofs.OnePiece.{within_by_last, not_within}
use Rattle.cue_sets.proofs.int_set.IntSet.is_within.Goals as goal

pub returns-then-right-left : goal.returns-then-right-left
returns-then-right-left c =
    let left = c.in-Some-Some.left in
    let right = c.in-Some-Some.right in
    within_by_last c.args.self.now c.args.other.now left right (to_z w64 (of_z w64 left.1)) (to_z w64 (of_z w64 right.1)) (sym c.self.view_is ∙ c.in-Some-Some.ensures.some) (sym c.other.view_is ∙ c.in-Some-Some.ensures'.some) (subst IsCanonical c.self.view_is c.self.invariant) (omega (arith, ints)) (omega (arith, ints)) (omega (arith, ints))

pub returns-else-right-left : goal.returns-else-right-left
returns-else-right-left c =
    let left = c.in-Some-Some.left in
    let right = c.in-Some-Some.right in
    not_within c.args.self.now c.args.other.now left right (to_z w64 (of_z w64 right.0)) (to_z w64 (of_z w64 left.0)) (sym c.self.view_is ∙ c.in-Some-Some.ensures.some) (sym c.other.view_is ∙ c.in-Some-Some.ensures'.some) (subst IsCanonical c.self.view_is c.self.invariant) (omega (arith, ints)) (omega (arith, ints)) (omega (arith, ints))
