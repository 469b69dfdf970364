use Rattle.std.proofs.Common.{◌≡◌, drop}
use Rattle.cue_scope.specs.Inner.Ordering.{first_open}
use Rattle.cue_scope.proofs.graph.first_open.Given as goal

abbrev pub invariant-loop-node : goal.invariant-loop-node
invariant-loop-node l = first_open l.ranks (drop l.node-index l.nodes) ≡ first_open l.ranks l.nodes
