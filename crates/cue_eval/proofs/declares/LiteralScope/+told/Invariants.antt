use Rattle.std.proofs.Common.{drop}
use Rattle.cue_eval.proofs.TellingParts.{PartsTold, ElementsTold, FieldsTold}
use Rattle.cue_eval.proofs.declares.LiteralScope.+told.Given as goal

abbrev pub invariant-elements-loop-element : goal.invariant-elements-loop-element
invariant-elements-loop-element l = ElementsTold l.self l.whose l.branches.items l.index l.elements (drop l.element-index l.elements)

abbrev pub invariant-fields-loop-declaration : goal.invariant-fields-loop-declaration
invariant-fields-loop-declaration l = FieldsTold l.self l.whose l.branches.items l.declarations (drop l.declaration-index l.declarations)

abbrev pub invariant-parts-loop-part : goal.invariant-parts-loop-part
invariant-parts-loop-part l = PartsTold l.self l.whose l.tables.items l.parts (drop l.part-index l.parts)
