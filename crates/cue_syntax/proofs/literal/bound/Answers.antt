use Rattle.std.proofs.Common.{arith, ℕ, [], ◌∷◌}
use Rattle.cue_syntax.specs.Recogniser.{unary, ParserRefusesAt}
use Rattle.cue_syntax.proofs.MovesAndStops.{moves_then, moves_more, refused_behind, refused_end, err_from}
use Rattle.cue_syntax.proofs.MovesOverLiterals.{comparison_moves}
use Rattle.cue_syntax.proofs.literal.bound.Goals as goal

pub returns-in_err-integer-clause-refused : goal.returns-in_err-integer-clause-refused
returns-in_err-integer-clause-refused c =
    err_from (λ r. (room : ℕ) → ParserRefusesAt room c.args.cursor.end (unary ∷ []) c.args.cursor.rest.now r) c.from_residual-in_err-integer.result _ c.from_residual-in_err-integer.ensures.1
    (λ room. refused_behind (moves_more (omega arith) (comparison_moves c.in_ok-comparison.comparison c.in_ok-comparison.ensures.spelled)) (λ none. absurd none)
    (refused_end c.in_ok-comparison.ensures.further.end (c.in_err-integer.ensures.refused room)))

pub returns-clause-moves : goal.returns-clause-moves
returns-clause-moves c = moves_then (comparison_moves c.in_ok-comparison.comparison c.in_ok-comparison.ensures.spelled) c.in_ok-integer.ensures.moves
