use Rattle.std.proofs.Common.{◌≡◌, ◌++◌}
use Rattle.cue_layers.specs.Inner.Walks.{walk_bytes, walk_size, IsWalk}
use Rattle.cue_layers.proofs.layers_writer.LayerWalk.write_ahead.Given as goal

-- what was written and what is left stay the same
abbrev pub invariant-ahead : goal.invariant-ahead
invariant-ahead l = record {
  walk : IsWalk l.self;
  same : l.ready.items ++ walk_bytes l.self ≡ l.fn.ready.items ++ walk_bytes l.fn.self;
}

abbrev pub decreases-ahead : goal.decreases-ahead
decreases-ahead l = walk_size l.self
