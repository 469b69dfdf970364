use Rattle.std.proofs.Common.{◌≡◌, pos, ◌+ℤ◌, ◌++◌, ◌∷◌, [], ap, SFits, to_z, of_z, w64, sym, arith, rules}
use Rattle.std.proofs.lemmas.Int.{ints}
use Rattle.std.proofs.lemmas.List.{append-nil}
use Rattle.cue_sets.specs.Pieces.{greatest}
use Rattle.cue_sets.proofs.Steps.{IsStep-of, after, after_is, after_greatest, falls, onward, back_to}
use Rattle.cue_sets.proofs.Swept.{ending, IsCombined-none, IsSwept-both, IsAhead-more, IsCombined-all, EndsFrom-lower}
use Rattle.cue_sets.proofs.pieces.combine.Goals as goal
use Rattle.cue_sets.proofs.pieces.combine.Goals.{in-Some+in_ok-push, in_default}

pub loop-pieces-init : goal.loop-pieces-init
loop-pieces-init c = rw c.in_ok-pieces.ensures.items (IsCombined-none c.args.how c.args.left.now c.args.right.now c.requires.left c.requires.right)

pub skip_before-on_left-requires-clause-ends : goal.skip_before-on_left-requires-clause-ends
skip_before-on_left-requires-clause-ends c =
    let last = c.min-last.result in
    let a = c.run_from-a.result.last in
    let b = c.run_from-b.result.last in
    let fits : SFits w64 a × SFits w64 b = search rules in
    let step = IsStep-of _ a b last fits.0 fits.1 c.run_from-a.ensures.forward c.run_from-b.ensures.forward c.min-last.ensures.value in
    EndsFrom-lower _ a c.loop-pieces.on_left.now c.run_from-a.ensures.ends (back_to last (after last) a step.to_left (after_is last step.fits c.if-last-eq9223372036854775807.false))

pub skip_before-on_right-requires-clause-ends : goal.skip_before-on_right-requires-clause-ends
skip_before-on_right-requires-clause-ends c =
    let last = c.min-last.result in
    let a = c.run_from-a.result.last in
    let b = c.run_from-b.result.last in
    let fits : SFits w64 a × SFits w64 b = search rules in
    let step = IsStep-of _ a b last fits.0 fits.1 c.run_from-a.ensures.forward c.run_from-b.ensures.forward c.min-last.ensures.value in
    EndsFrom-lower _ b c.loop-pieces.on_right.now c.run_from-b.ensures.ends (back_to last (after last) b step.to_right (after_is last step.fits c.if-last-eq9223372036854775807.false))

pub loop-pieces-smaller : goal.loop-pieces-smaller
loop-pieces-smaller c =
    let from = to_z w64 c.loop-pieces.from-bits in
    let last = c.min-last.result in
    let a = c.run_from-a.result.last in
    let b = c.run_from-b.result.last in
    let fits : SFits w64 a × SFits w64 b = search rules in
    let step = IsStep-of from a b last fits.0 fits.1 c.run_from-a.ensures.forward c.run_from-b.ensures.forward c.min-last.ensures.value in
    falls from last step.forward step.fits c.if-last-eq9223372036854775807.false

pub loop-pieces-preserved : goal.loop-pieces-preserved
loop-pieces-preserved c =
    let from = to_z w64 c.loop-pieces.from-bits in
    let last = c.min-last.result in
    let a = c.run_from-a.result.last in
    let b = c.run_from-b.result.last in
    let fits : SFits w64 a × SFits w64 b = search rules in
    let step = IsStep-of from a b last fits.0 fits.1 c.run_from-a.ensures.forward c.run_from-b.ensures.forward c.min-last.ensures.value in
    let next = after_is last step.fits c.if-last-eq9223372036854775807.false in
    let on = onward from last (after last) step.forward next in
    let i = c.loop-pieces.invariant in
    record {
      swept = IsSwept-both c.args.how c.args.left.now c.args.right.now c.loop-pieces.pieces.items c.loop-pieces.begun from c.loop-pieces.on_left.now c.loop-pieces.on_right.now a b last c.run_from-a.result.inside c.run_from-b.result.inside c.keeps.result c.go_on.new.pieces.items c.in_ok-begun.begun (after last) i step c.run_from-a.ensures.alike c.run_from-b.ensures.alike c.keeps.ensures c.in_ok-begun.ensures.0 c.in_ok-begun.ensures.1 next;
      ahead_left = IsAhead-more from (after last) c.args.left.now c.loop-pieces.on_left.now c.skip_before-on_left.result.now on i.ahead_left c.skip_before-on_left.ensures.ascending c.skip_before-on_left.ensures.ends c.skip_before-on_left.ensures.members;
      ahead_right = IsAhead-more from (after last) c.args.right.now c.loop-pieces.on_right.now c.skip_before-on_right.result.now on i.ahead_right c.skip_before-on_right.ensures.ascending c.skip_before-on_right.ensures.ends c.skip_before-on_right.ensures.members;
    }

pub returns : goal.returns
returns c =
    let from = to_z w64 c.loop-pieces.from-bits in
    let last = c.min-last.result in
    let a = c.run_from-a.result.last in
    let b = c.run_from-b.result.last in
    let fits : SFits w64 a × SFits w64 b = search rules in
    let step = IsStep-of from a b last fits.0 fits.1 c.run_from-a.ensures.forward c.run_from-b.ensures.forward c.min-last.ensures.value in
    let end = after_greatest last step.fits c.if-last-eq9223372036854775807.true in
    let swept = IsSwept-both c.args.how c.args.left.now c.args.right.now c.loop-pieces.pieces.items c.loop-pieces.begun from c.loop-pieces.on_left.now c.loop-pieces.on_right.now a b last c.run_from-a.result.inside c.run_from-b.result.inside c.keeps.result c.go_on.new.pieces.items c.in_ok-begun.begun (greatest +ℤ pos 1) c.loop-pieces.invariant step c.run_from-a.ensures.alike c.run_from-b.ensures.alike c.keeps.ensures c.in_ok-begun.ensures.0 c.in_ok-begun.ensures.1 end in
    let final : c.match-begun.pieces.items ≡ c.go_on.new.pieces.items ++ ending c.in_ok-begun.begun =
    elim c.match-begun.branch [
      | in-Some+in_ok-push w ↦
          let same : to_z w64 (of_z w64 w.in-Some.first) ≡ w.in-Some.first = omega (arith, ints) in
          rw (w.pieces-is, w.in_ok-push.ensures.items, w.in-Some.is) (ap (λ first. c.go_on.new.pieces.items ++ (first, greatest) ∷ []) same)
      | in_default w ↦ rw (w.pieces-is, w.in_default.is) (sym (append-nil c.go_on.new.pieces.items))
    ] in
    let all = IsCombined-all c.args.how c.args.left.now c.args.right.now c.go_on.new.pieces.items c.in_ok-begun.begun c.match-begun.pieces.items c.requires.left c.requires.right swept final in
    record { canonical = all.0; members = all.1 }
