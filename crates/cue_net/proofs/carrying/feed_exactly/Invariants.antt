use Rattle.std.proofs.Common.{◌≡◌, ◌+◌, ◌-◌, ◌≤◌, ℕ, List, length}
use Rattle.std.specs.Io.KnownBytes.{Appends, Consumes}
use Rattle.cue_net.specs.Inner.Hearing.{FeedsClient}
use Rattle.cue_net.proofs.carrying.feed_exactly.Given as goal

-- what was heard so far
abbrev pub invariant-loop-got : goal.invariant-loop-got
invariant-loop-got g l = record {
  heard : (read : List ℕ) × Appends (g.S.Source.given l.fn.source) (g.S.Source.given l.source) read
      × Consumes (g.S.Source.to_come l.fn.source) (g.S.Source.to_come l.source) read
      × (length read ≡ l.got) × FeedsClient l.fn.hearing l.hearing read;
  within : l.got ≤ l.count;
  moves : l.fn.left ≤ l.left + l.got;
  turns : g.S.Source.called l.source + l.left ≡ g.S.Source.called l.fn.source + l.fn.left;
  fewer : l.left ≤ l.fn.left;
  sound : g.S.Source.failed l.source ≡ g.S.Source.failed l.fn.source;
}

abbrev pub decreases-loop-got : goal.decreases-loop-got
decreases-loop-got g l = l.count - l.got
