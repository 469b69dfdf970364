use Rattle.std.proofs.Common.{◌+◌, ◌-◌, ◌≤◌, Some, length, [], ◌∷◌}
use Rattle.cue_report.specs.Inner.GapSearch.{gaps_above, free_elements}
use Rattle.cue_report.specs.Inner.Telling.{WritesPieces}
use Rattle.cue_report.specs.Inner.Trail.{shown_steps}
use Rattle.cue_report.proofs.listed.ListedGapSink.free_elements.Given as goal

abbrev pub invariant-loop-number : goal.invariant-loop-number
invariant-loop-number l =
    (l.number ≤ l.end + (l.first - l.end))
    × WritesPieces (record { count = length l.fn.out.items; known = Some l.fn.out.items }) (record { count = length l.out.items; known = Some l.out.items })
    (gaps_above (λ gap. gap ∷ []) (shown_steps l.steps) (free_elements l.first (l.number - l.first)))
