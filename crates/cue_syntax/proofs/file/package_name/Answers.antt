use Rattle.std.proofs.Common.{rules}
use Rattle.cue_syntax.specs.Grammar.{HidesDefinition}
use Rattle.cue_syntax.proofs.MovesAndStops.{stopped, stops_here}
use Rattle.cue_syntax.proofs.MovesOverTexts.{package_name_moves, package_hidden_moves, package_hidden_halts, package_halts}
use Rattle.cue_syntax.proofs.file.package_name.Goals as goal

pub returns-then-hides_definition-clause-refused : goal.returns-then-hides_definition-clause-refused
returns-then-hides_definition-clause-refused c room =
    stopped (stops_here c.syntax-then-hides_definition.ensures (package_hidden_halts c.in-Some.token.now c.in-Some.ensures.first c.in-Hidden.is (c.hides_definition.ensures.0 c.if-hides_definition.true)))

pub returns-in-Name-clause-moves : goal.returns-in-Name-clause-moves
returns-in-Name-clause-moves c = package_name_moves c.in-Some.token.now c.in-Some.ensures.first c.in-Name.is

pub returns-else-hides_definition-clause-moves : goal.returns-else-hides_definition-clause-moves
returns-else-hides_definition-clause-moves c =
    let other : ¬ HidesDefinition c.in-Hidden.name = search rules in
    package_hidden_moves c.in-Some.token.now c.in-Some.ensures.first c.in-Hidden.is other

pub returns-in_default-kind-clause-refused : goal.returns-in_default-kind-clause-refused
returns-in_default-kind-clause-refused c room =
    stopped (stops_here c.syntax-in_default-kind.ensures (package_halts c.in-Some.token.now c.in-Some.ensures.first c.in_default-kind.not-Name c.in_default-kind.not-Hidden c.requires))
