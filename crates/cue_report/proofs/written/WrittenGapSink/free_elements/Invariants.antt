use Rattle.std.proofs.Common.{◌≡◌, ◌+◌, ◌-◌, ◌≤◌, string_bytes}
use Rattle.std.specs.List.{flat_map}
use Rattle.cue_report.specs.Inner.GapSearch.{gaps_above, free_elements}
use Rattle.cue_report.specs.Lines.{gap_line}
use Rattle.cue_report.specs.Inner.Telling.{WritesPieces}
use Rattle.cue_report.specs.Inner.Trail.{dotted_behind, shown_steps}
use Rattle.cue_report.proofs.written.WrittenGapSink.free_elements.Given as goal

abbrev pub invariant-loop-number : goal.invariant-loop-number
invariant-loop-number g l = record {
  reach : l.number ≤ l.end + (l.first - l.end);
  list : string_bytes l.self.list ≡ flat_map dotted_behind (shown_steps l.steps);
  told : WritesPieces (record { count = l.fn.self.told; known = g.S.TextSink.taken l.fn.out }) (record { count = l.self.told; known = g.S.TextSink.taken l.out })
      (gaps_above gap_line (shown_steps l.steps) (free_elements l.first (l.number - l.first)));
}
