use Rattle.std.proofs.Common.{ℕ, [], ◌∷◌}
use Rattle.cue_syntax.specs.Recogniser.{unary, ParserRefusesAt}
use Rattle.cue_syntax.proofs.MovesAndStops.{err_from}
use Rattle.cue_syntax.proofs.MovesOverLiterals.{integer_refused}
use Rattle.cue_syntax.proofs.literal.integer.Goals as goal

pub returns-in_err-integer-clause-refused : goal.returns-in_err-integer-clause-refused
returns-in_err-integer-clause-refused c =
    err_from (λ r. (room : ℕ) → ParserRefusesAt room c.args.cursor.end (unary ∷ []) c.args.cursor.rest.now r) c.from_residual.result _ c.from_residual.ensures.1
    (λ room. integer_refused c.args.cursor.rest.now c.requires (c.in_err-integer.ensures.refused room))
