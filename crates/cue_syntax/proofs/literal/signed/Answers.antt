use Rattle.std.proofs.Common.{arith, ap, ◌∷◌}
use Rattle.cue_syntax.specs.Recogniser.{step_stack, signed}
use Rattle.cue_syntax.proofs.MovesAndStops.{takes, alike_at, moves_then, refused_behind, refused_end, if_ok, if_err}
use Rattle.cue_syntax.proofs.GoalsAtTokens.{signed_magnitude}
use Rattle.cue_syntax.proofs.literal.signed.Goals as goal

pub returns-in-Minus-clause-moves : goal.returns-in-Minus-clause-moves
returns-in-Minus-clause-moves c =
    if_ok c.magnitude.result (λ x m. moves_then (takes c.in-Some.token.now c.in-Some.ensures.first (λ below. ap (step_stack (signed ∷ below)) c.in-Minus.ensures) (omega arith)) m)
    c.magnitude.ensures.moves

pub returns-in-Minus-clause-refused : goal.returns-in-Minus-clause-refused
returns-in-Minus-clause-refused c =
    if_err c.magnitude.result (λ r m room. refused_behind (takes c.in-Some.token.now c.in-Some.ensures.first (λ below. ap (step_stack (signed ∷ below)) c.in-Minus.ensures) (omega arith)) (λ none. absurd none) (refused_end c.in-Some.ensures.end (m room)))
    c.magnitude.ensures.refused

pub returns-in-Plus-clause-moves : goal.returns-in-Plus-clause-moves
returns-in-Plus-clause-moves c =
    if_ok c.magnitude-in-Plus.result (λ x m. moves_then (takes c.in-Some.token.now c.in-Some.ensures.first (λ below. ap (step_stack (signed ∷ below)) c.in-Plus.ensures) (omega arith)) m)
    c.magnitude-in-Plus.ensures.moves

pub returns-in-Plus-clause-refused : goal.returns-in-Plus-clause-refused
returns-in-Plus-clause-refused c =
    if_err c.magnitude-in-Plus.result (λ r m room. refused_behind (takes c.in-Some.token.now c.in-Some.ensures.first (λ below. ap (step_stack (signed ∷ below)) c.in-Plus.ensures) (omega arith)) (λ none. absurd none) (refused_end c.in-Some.ensures.end (m room)))
    c.magnitude-in-Plus.ensures.refused

pub returns-in-Absent-clause-moves : goal.returns-in-Absent-clause-moves
returns-in-Absent-clause-moves c =
    if_ok c.magnitude-in-Absent.result (λ x m. moves_then (alike_at c.in-Some.token.now c.in-Some.ensures.first (λ below. signed_magnitude _ c.in-Absent.ensures.0 c.in-Absent.ensures.1 below)) m)
    c.magnitude-in-Absent.ensures.moves

pub returns-in-Absent-clause-refused : goal.returns-in-Absent-clause-refused
returns-in-Absent-clause-refused c =
    if_err c.magnitude-in-Absent.result (λ r m room. refused_behind (alike_at c.in-Some.token.now c.in-Some.ensures.first (λ below. signed_magnitude _ c.in-Absent.ensures.0 c.in-Absent.ensures.1 below)) (λ none. absurd none) (m room))
    c.magnitude-in-Absent.ensures.refused
