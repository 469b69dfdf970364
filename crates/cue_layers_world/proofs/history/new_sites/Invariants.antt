use Rattle.std.proofs.Common.{[], replicate}
use Rattle.cue_lattice.specs.World.{AllAlong}
use Rattle.cue_layers_world.specs.Sites.{IsSiteOf}
use Rattle.cue_layers_world.proofs.history.new_sites.Given as goal

abbrev pub invariant-loop : goal.invariant-loop
invariant-loop l = AllAlong IsSiteOf l.sites.items (replicate l.counter [])
