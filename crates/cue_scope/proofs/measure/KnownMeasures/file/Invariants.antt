use Rattle.std.proofs.Common.{drop}
use Rattle.cue_syntax.specs.Syntax as tree
use Rattle.cue_scope.specs.Kept.{nodes_kept}
use Rattle.cue_scope.specs.Uses.{uses_of_entries}
use Rattle.cue_scope.specs.Measures.{IsMeasureKnown}
use Rattle.cue_scope.proofs.Measuring.{MeasuringFile}
use Rattle.cue_scope.proofs.measure.KnownMeasures.file.Given as goal

abbrev pub invariant-loop-declaration : goal.invariant-loop-declaration
invariant-loop-declaration l =
    IsMeasureKnown l.self (uses_of_entries (nodes_kept l.self.definitions.now) (tree.entries l.declarations)) → MeasuringFile l.self l.all l.declarations (drop l.declaration-index l.declarations)
