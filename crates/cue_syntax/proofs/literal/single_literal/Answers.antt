use Rattle.std.proofs.Common.{◌∙◌, ap, arith, rules, ◌∷◌}
use Rattle.cue_syntax.specs.Grammar.{IsKeyword}
use Rattle.cue_syntax.specs.Operands.{EndsOperand}
use Rattle.cue_syntax.specs.declared.tree.Sign.TheVariants as signs
use Rattle.cue_syntax.specs.Recogniser.{step_stack, unary}
use Rattle.cue_syntax.proofs.MovesAndStops.{takes}
use Rattle.cue_syntax.proofs.GoalsAtTokens.{magnitude_step}
use Rattle.cue_syntax.proofs.MovesOverLiterals.{name_moves}
use Rattle.cue_syntax.proofs.literal.single_literal.Goals as goal

pub returns-else-magnitude-greatest_magnitude-clause-moves : goal.returns-else-magnitude-greatest_magnitude-clause-moves
returns-else-magnitude-greatest_magnitude-clause-moves c =
    takes c.in_ok-token.token.now c.in_ok-token.ensures.first (λ below. ap (step_stack (unary ∷ below)) c.in-Integer.is ∙ magnitude_step signs.Absent _ below (omega arith)) (omega arith)

pub returns-in-Text-clause-moves : goal.returns-in-Text-clause-moves
returns-in-Text-clause-moves c = takes c.in_ok-token.token.now c.in_ok-token.ensures.first (λ below. ap (step_stack (unary ∷ below)) c.in-Text.is) (omega arith)

pub returns-else-is_keyword-clause-moves : goal.returns-else-is_keyword-clause-moves
returns-else-is_keyword-clause-moves c =
    let keyword : ¬ IsKeyword c.in-Name.name = search rules in
    let ends : EndsOperand c.in_ok-token.after.rest.now = search rules in
    name_moves c.in_ok-token.token.now c.in_ok-token.ensures.first c.in-Name.is keyword ends.2

pub returns-in-Definition-clause-moves : goal.returns-in-Definition-clause-moves
returns-in-Definition-clause-moves c = takes c.in_ok-token.token.now c.in_ok-token.ensures.first (λ below. ap (step_stack (unary ∷ below)) c.in-Definition.is) (omega arith)
