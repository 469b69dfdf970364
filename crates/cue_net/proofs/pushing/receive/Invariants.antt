use Rattle.std.proofs.Common.{◌≡◌, ◌+◌, ◌≤◌, ℕ, List, length}
use Rattle.std.specs.Io.KnownBytes.{Appends, Consumes}
use Rattle.cue_net.specs.Inner.Hearing.{FeedsClient}
use Rattle.cue_net.proofs.pushing.receive.Given as goal

-- what was heard so far, a byte at least for each turn
abbrev pub invariant-loop-piece : goal.invariant-loop-piece
invariant-loop-piece g l = record {
  heard : (piece : List ℕ) × Appends (g.S.Source.given l.fn.source) (g.S.Source.given l.source) piece
      × Consumes (g.S.Source.to_come l.fn.source) (g.S.Source.to_come l.source) piece × FeedsClient l.fn.hearing l.hearing piece
      × (l.fn.left ≤ l.left + length piece);
  turns : g.S.Source.called l.source + l.left ≡ g.S.Source.called l.fn.source + l.fn.left;
  fewer : l.left ≤ l.fn.left;
  sound : g.S.Source.failed l.source ≡ g.S.Source.failed l.fn.source;
  room : length l.piece ≡ 4096;
}

abbrev pub decreases-loop-piece : goal.decreases-loop-piece
decreases-loop-piece g l = l.left
