use Rattle.std.proofs.Common.{◌≡◌, drop}
use Rattle.cue_syntax.specs.Syntax.{entries}
use Rattle.cue_scope.specs.Names.{has_label}
use Rattle.cue_scope.proofs.words.is_declared.Given as goal

abbrev pub invariant-loop-declaration : goal.invariant-loop-declaration
invariant-loop-declaration l = has_label l.name (entries (drop l.declaration-index l.declarations)) ≡ has_label l.name (entries l.declarations)
