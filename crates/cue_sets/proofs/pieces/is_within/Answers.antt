use Rattle.std.proofs.Common.{pos, ◌+ℤ◌, SFits, to_z, w64, sym, ◌∙◌, refl, rules}
use Rattle.cue_sets.specs.Pieces.{greatest}
use Rattle.cue_sets.proofs.Steps.{IsStep-of, after, after_is, after_greatest, falls, onward, back_to}
use Rattle.cue_sets.proofs.Swept.{IsAhead-more, EndsFrom-lower}
use Rattle.cue_sets.proofs.Inside.{IsInside-none, AreInside-more, AreInside-all}
use Rattle.cue_sets.proofs.pieces.is_within.Goals as goal

pub sweep-init : goal.sweep-init
sweep-init c = IsInside-none c.args.left.now c.args.right.now c.requires.left c.requires.right

pub skip_before-on_left-requires-clause-ends : goal.skip_before-on_left-requires-clause-ends
skip_before-on_left-requires-clause-ends c =
    let last = c.min-last.result in
    let a = c.run_from-a.result.last in
    let b = c.run_from-b.result.last in
    let fits : SFits w64 a × SFits w64 b = search rules in
    let step = IsStep-of _ a b last fits.0 fits.1 c.run_from-a.ensures.forward c.run_from-b.ensures.forward c.min-last.ensures.value in
    EndsFrom-lower _ a c.sweep.on_left.now c.run_from-a.ensures.ends (back_to last (after last) a step.to_left (after_is last step.fits c.if-last-eq9223372036854775807.false))

pub skip_before-on_right-requires-clause-ends : goal.skip_before-on_right-requires-clause-ends
skip_before-on_right-requires-clause-ends c =
    let last = c.min-last.result in
    let a = c.run_from-a.result.last in
    let b = c.run_from-b.result.last in
    let fits : SFits w64 a × SFits w64 b = search rules in
    let step = IsStep-of _ a b last fits.0 fits.1 c.run_from-a.ensures.forward c.run_from-b.ensures.forward c.min-last.ensures.value in
    EndsFrom-lower _ b c.sweep.on_right.now c.run_from-b.ensures.ends (back_to last (after last) b step.to_right (after_is last step.fits c.if-last-eq9223372036854775807.false))

pub sweep-smaller : goal.sweep-smaller
sweep-smaller c =
    let from = to_z w64 c.sweep.from-bits in
    let last = c.min-last.result in
    let a = c.run_from-a.result.last in
    let b = c.run_from-b.result.last in
    let fits : SFits w64 a × SFits w64 b = search rules in
    let step = IsStep-of from a b last fits.0 fits.1 c.run_from-a.ensures.forward c.run_from-b.ensures.forward c.min-last.ensures.value in
    falls from last step.forward step.fits c.if-last-eq9223372036854775807.false

pub sweep-preserved : goal.sweep-preserved
sweep-preserved c =
    let from = to_z w64 c.sweep.from-bits in
    let last = c.min-last.result in
    let a = c.run_from-a.result.last in
    let b = c.run_from-b.result.last in
    let fits : SFits w64 a × SFits w64 b = search rules in
    let step = IsStep-of from a b last fits.0 fits.1 c.run_from-a.ensures.forward c.run_from-b.ensures.forward c.min-last.ensures.value in
    let next = after_is last step.fits c.if-last-eq9223372036854775807.false in
    let on = onward from last (after last) step.forward next in
    let i = c.sweep.invariant in
    record {
      inside = AreInside-more c.args.left.now c.args.right.now from c.sweep.on_left.now c.sweep.on_right.now a b last c.run_from-a.result.inside c.run_from-b.result.inside (after last) i step c.run_from-a.ensures.alike c.run_from-b.ensures.alike (sym c.keeps.ensures ∙ c.if-keeps.false) next;
      ahead_left = IsAhead-more from (after last) c.args.left.now c.sweep.on_left.now c.skip_before-on_left.result.now on i.ahead_left c.skip_before-on_left.ensures.ascending c.skip_before-on_left.ensures.ends c.skip_before-on_left.ensures.members;
      ahead_right = IsAhead-more from (after last) c.args.right.now c.sweep.on_right.now c.skip_before-on_right.result.now on i.ahead_right c.skip_before-on_right.ensures.ascending c.skip_before-on_right.ensures.ends c.skip_before-on_right.ensures.members;
    }

pub returns-then-last-eq9223372036854775807 : goal.returns-then-last-eq9223372036854775807
returns-then-last-eq9223372036854775807 c =
    let from = to_z w64 c.sweep.from-bits in
    let last = c.min-last.result in
    let a = c.run_from-a.result.last in
    let b = c.run_from-b.result.last in
    let fits : SFits w64 a × SFits w64 b = search rules in
    let step = IsStep-of from a b last fits.0 fits.1 c.run_from-a.ensures.forward c.run_from-b.ensures.forward c.min-last.ensures.value in
    let end = after_greatest last step.fits c.if-last-eq9223372036854775807.true in
    let inside = AreInside-more c.args.left.now c.args.right.now from c.sweep.on_left.now c.sweep.on_right.now a b last c.run_from-a.result.inside c.run_from-b.result.inside (greatest +ℤ pos 1) c.sweep.invariant step c.run_from-a.ensures.alike c.run_from-b.ensures.alike (sym c.keeps.ensures ∙ c.if-keeps.false) end in
    (λ h. AreInside-all c.args.left.now c.args.right.now c.requires.left inside, λ h. refl)
