use Rattle.std.proofs.Common.{ap, arith, refl, ℕ, [], ◌∷◌, List}
use Rattle.cue_lex.specs.declared.token.TokenKind.TheVariants as kinds
use Rattle.cue_syntax.specs.Viability.{IsSignAt}
use Rattle.cue_syntax.specs.Recogniser.{step_stack, unary, signed, signed_or_text, ParserRefusesAt, MovesStack}
use Rattle.cue_syntax.proofs.MovesAndStops.{takes, takes_read, moves_then, moves_more, refused_behind, refused_end, err_from}
use Rattle.cue_syntax.proofs.MovesOverLiterals.{other_moves, no_text_first, no_text_none}
use Rattle.cue_syntax.proofs.literal.other_than.Goals as goal
use Rattle.cue_syntax.proofs.literal.other_than.Goals.{in-Some+in_default-kind, in_default}

pub returns-in-Text-clause-moves : goal.returns-in-Text-clause-moves
returns-in-Text-clause-moves c =
    moves_then (takes_read {next = signed_or_text ∷ []} c.in_ok-after.ensures.reads (λ below. refl) (omega arith))
    (takes c.in-Some.token.now c.in-Some.ensures.first (λ below. ap (step_stack (signed_or_text ∷ below)) c.in-Text.is) (omega arith))

pub returns-in_err-integer-clause-refused : goal.returns-in_err-integer-clause-refused
returns-in_err-integer-clause-refused c =
    let text : (t : List ℕ) → IsSignAt (kinds.Text t) c.in_ok-after.after.rest.now → ⊥ =
    elim c.match-next.branch [
      | in-Some+in_default-kind w ↦ no_text_first w.in-Some.token.now w.in-Some.ensures.first w.in_default-kind.not-Text
      | in_default w ↦ no_text_none w.in_default.ensures.first
    ] in
    let m : MovesStack 0 (unary ∷ []) c.args.cursor.rest.now (signed ∷ []) c.in_ok-after.after.rest.now =
    moves_then (takes_read {next = signed_or_text ∷ []} c.in_ok-after.ensures.reads (λ below. refl) (omega arith)) (other_moves text) in
    err_from (λ r. (room : ℕ) → ParserRefusesAt room c.args.cursor.end (unary ∷ []) c.args.cursor.rest.now r) c.from_residual-in_err-integer.result _ c.from_residual-in_err-integer.ensures.1
    (λ room. refused_behind (moves_more (omega arith) m) (λ none. absurd none) (refused_end c.in_ok-after.ensures.further.end (c.in_err-integer.ensures.refused room)))

pub returns-clause-moves : goal.returns-clause-moves
returns-clause-moves c =
    let text : (t : List ℕ) → IsSignAt (kinds.Text t) c.in_ok-after.after.rest.now → ⊥ =
    elim c.match-next.branch [
      | in-Some+in_default-kind w ↦ no_text_first w.in-Some.token.now w.in-Some.ensures.first w.in_default-kind.not-Text
      | in_default w ↦ no_text_none w.in_default.ensures.first
    ] in
    let m : MovesStack 0 (unary ∷ []) c.args.cursor.rest.now (signed ∷ []) c.in_ok-after.after.rest.now =
    moves_then (takes_read {next = signed_or_text ∷ []} c.in_ok-after.ensures.reads (λ below. refl) (omega arith)) (other_moves text) in
    moves_then m c.in_ok-integer.ensures.moves
