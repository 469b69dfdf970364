use Rattle.std.proofs.Common.{rules, ◌-◌, pos, ◌+ℤ◌, ◌≤ℤ◌, length, arith, w64}
use Rattle.std.specs.Prelude.{FitsSigned}
use Rattle.std.proofs.lemmas.Int.{ints}
use Rattle.cue_sets.specs.Pieces.{least}
use Rattle.cue_sets.proofs.Following.{ascends_after}
use Rattle.cue_sets.proofs.pieces.is_before.Goals as goal

pub returns-then-last-first : goal.returns-then-last-first
returns-then-last-first c = λ yes.
    let left = c.args.left.now in
    let last = c.in-Some-Some.field-0-0.now in
    let first = c.in-Some-Some.field-0-1.now in
    let last_fits : FitsSigned w64 last.1 = search rules in
    let first_fits : FitsSigned w64 first.0 = search rules in
    let at_last = c.in-Some-Some.ensures.item in
    let at_first = c.in-Some-Some.ensures'.item in
    let some = at_last.3.0 in
    let less = c.if-last-first.true in
    let apart : (last.1 +ℤ pos 2) ≤ℤ first.0 = omega (arith, ints, yes, less, last_fits, first_fits) in
    ascends_after least left c.args.right.now (length left - 1) last first c.requires.left c.requires.right (omega (arith, some)) at_last.1 at_first.1 apart
