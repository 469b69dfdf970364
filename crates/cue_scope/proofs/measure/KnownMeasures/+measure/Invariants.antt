use Rattle.std.proofs.Common.{drop}
use Rattle.cue_syntax.specs.Syntax as tree
use Rattle.cue_scope.specs.Kept.{nodes_kept}
use Rattle.cue_scope.specs.Uses.{uses_of_elements, uses_of_branches, uses_of_entries}
use Rattle.cue_scope.specs.Measures.{IsMeasureKnown}
use Rattle.cue_scope.proofs.Measuring.{MeasuringParts, MeasuringElements, MeasuringTerms, MeasuringEntries}
use Rattle.cue_scope.proofs.measure.KnownMeasures.+measure.Given as goal

abbrev pub invariant-declarations-loop-declaration : goal.invariant-declarations-loop-declaration
invariant-declarations-loop-declaration l =
    IsMeasureKnown l.self (uses_of_entries (nodes_kept l.self.definitions.now) (tree.entries l.declarations)) → MeasuringEntries l.self l.all l.declarations (drop l.declaration-index l.declarations)

abbrev pub invariant-elements-loop-element : goal.invariant-elements-loop-element
invariant-elements-loop-element l =
    IsMeasureKnown l.self (uses_of_elements (nodes_kept l.self.definitions.now) (tree.elements_of_list l.elements)) → MeasuringElements l.self l.all l.elements (drop l.element-index l.elements)

abbrev pub invariant-parts-loop-part : goal.invariant-parts-loop-part
invariant-parts-loop-part l =
    IsMeasureKnown l.self (uses_of_elements (nodes_kept l.self.definitions.now) (tree.elements_of_list l.parts)) → MeasuringParts l.self l.all l.parts (drop l.part-index l.parts)

abbrev pub invariant-terms-loop-term : goal.invariant-terms-loop-term
invariant-terms-loop-term l =
    IsMeasureKnown l.self (uses_of_branches (nodes_kept l.self.definitions.now) (tree.branches_of_list l.terms)) → MeasuringTerms l.self l.all l.terms (drop l.term-index l.terms)
