use Rattle.std.proofs.Common.{◌≡◌, ◌+◌, ◌≤◌, [], length, take}
use Rattle.cue_syntax.specs.Spots.{innermost_open}
use Rattle.cue_syntax.specs.Inner.Backwards.{open_from, open_at_symbol}
use Rattle.cue_syntax.proofs.spot.find_open.Given as goal

-- what is open at the symbol, as it is seen from the tokens that are left
abbrev pub invariant-tokens : goal.invariant-tokens
invariant-tokens l = record {
  few : l.back.closed + l.left ≤ length l.before;
  sees : open_at_symbol l.back (open_from [] (take l.left l.before)) ≡ innermost_open (open_from [] l.before);
}

abbrev pub decreases-tokens : goal.decreases-tokens
decreases-tokens l = l.left
