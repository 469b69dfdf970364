use Rattle.std.proofs.Common.{drop}
use Rattle.cue_scope.specs.Scopes.{scope_of, definitions_at}
use Rattle.cue_scope.proofs.Walking.{WalkingElements, WalkingTerms, WalkingEntries}
use Rattle.cue_scope.proofs.names.NameScope.+names.Given as goal

abbrev pub invariant-declarations-loop-declaration : goal.invariant-declarations-loop-declaration
invariant-declarations-loop-declaration l =
    WalkingEntries (definitions_at l.self) (scope_of l.self.scope) l.declarations l.initial.uses.items l.uses.items (drop l.declaration-index l.declarations)

abbrev pub invariant-elements-loop-element : goal.invariant-elements-loop-element
invariant-elements-loop-element l =
    WalkingElements (definitions_at l.self) (scope_of l.self.scope) l.elements l.initial.uses.items l.uses.items (drop l.element-index l.elements)

abbrev pub invariant-terms-loop-term : goal.invariant-terms-loop-term
invariant-terms-loop-term l =
    WalkingTerms (definitions_at l.self) (scope_of l.self.scope) l.terms l.initial.uses.items l.uses.items (drop l.term-index l.terms)
