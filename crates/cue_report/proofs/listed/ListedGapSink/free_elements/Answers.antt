use Rattle.std.proofs.Common.{◌-◌, ◌≤◌, [], ◌∷◌, Some, length, sym, subst, arith}
use Rattle.cue_report.specs.Inner.GapSearch.{gaps_above, free_elements}
use Rattle.cue_report.specs.Inner.Telling.{WritesPiecesPrefix}
use Rattle.cue_report.specs.Inner.Trail.{shown_steps}
use Rattle.cue_report.proofs.GapTelling.{one_more_free, free_begun}
use Rattle.cue_report.proofs.Telling.{grows_list, starts_whole}
use Rattle.cue_report.proofs.Writing.{on_any}
use Rattle.cue_report.proofs.listed.ListedGapSink.free_elements.Goals as goal

pub loop-number-preserved : goal.loop-number-preserved
loop-number-preserved c =
    let loop = c.loop-number in (
      omega arith,
      one_more_free (λ gap. gap ∷ []) c.args.first loop.number _ _ _ (shown_steps c.args.steps.now) loop.auto.number loop.invariant.1
          (grows_list loop.out.items c.element.new.out.items _ c.in_ok-element.ensures.told),
    )

pub returns-in_err-element-clause-begun : goal.returns-in_err-element-clause-begun
returns-in_err-element-clause-begun c =
    let loop = c.loop-number in
    let low : loop.number - c.args.first ≤ c.args.end - c.args.first = omega (arith, c.loop-number-test.true) in
    on_any _ (subst (λ xs. WritesPiecesPrefix (record { count = length c.args.out.now.items; known = Some c.args.out.now.items }) (record { count = length xs; known = Some xs })
    (gaps_above (λ gap. gap ∷ []) (shown_steps c.args.steps.now) (free_elements c.args.first (c.args.end - c.args.first)))) (sym c.in_err-element.ensures.kept)
    (free_begun (λ gap. gap ∷ []) c.args.first (loop.number - c.args.first) (c.args.end - c.args.first) _ _ (shown_steps c.args.steps.now) low (starts_whole _ _ _ loop.invariant.1)))
