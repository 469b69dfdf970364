use Rattle.std.proofs.Common.{drop}
use Rattle.cue_scope.specs.Scopes.{scope_of, definitions_at}
use Rattle.cue_scope.proofs.TextWalks.{WalkingText}
use Rattle.cue_scope.proofs.names.NameScope.text.Given as goal

abbrev pub invariant-loop-declaration : goal.invariant-loop-declaration
invariant-loop-declaration l =
    WalkingText (definitions_at l.self) (scope_of l.self.scope) l.declarations l.of_definitions.items l.of_fields.items (drop l.declaration-index l.declarations)
