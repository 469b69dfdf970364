use Rattle.std.proofs.Common.{◌≡◌, drop}
use Rattle.cue_scope.specs.Scopes.{has_chained}
use Rattle.cue_scope.proofs.scope.is_among.Given as goal

abbrev pub invariant-loop-label : goal.invariant-loop-label
invariant-loop-label l = has_chained l.name (drop l.label-index l.labels) ≡ has_chained l.name l.labels
