use Rattle.std.proofs.Common.{ap, arith, subst, ◌∷◌}
use Rattle.cue_syntax.specs.Viability.{IsTokenAt, Opens}
use Rattle.cue_syntax.specs.Recogniser.{step_stack, unary}
use Rattle.cue_syntax.proofs.MovesAndStops.{takes, stopped, stops_here, halts_at}
use Rattle.cue_syntax.proofs.GoalsAtTokens.{mark_none}
use Rattle.cue_syntax.proofs.literal.literal.Goals as goal

pub returns-in-Text-clause-moves : goal.returns-in-Text-clause-moves
returns-in-Text-clause-moves c = takes c.in-Some.token.now c.in-Some.ensures.first (λ below. ap (step_stack (unary ∷ below)) c.in-Text.is) (omega arith)

pub returns-in-Bottom-clause-moves : goal.returns-in-Bottom-clause-moves
returns-in-Bottom-clause-moves c = takes c.in-Some.token.now c.in-Some.ensures.first (λ below. ap (step_stack (unary ∷ below)) c.in-Bottom.is) (omega arith)

pub returns-in-Nothing-clause-refused : goal.returns-in-Nothing-clause-refused
returns-in-Nothing-clause-refused c = λ room. stopped (stops_here c.syntax-in-Nothing.ensures (halts_at c.in-Some.token.now c.in-Some.ensures.first (λ below closes.
    mark_none c.in-Mark.mark c.in-Mark.is (subst (λ z. ¬ IsTokenAt Opens z) c.in-Some.ensures.first c.requires.opens) c.in-Nothing.ensures.0 c.in-Nothing.ensures.1 c.in-Nothing.ensures.2 below)))
