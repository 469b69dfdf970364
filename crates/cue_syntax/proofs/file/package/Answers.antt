use Rattle.std.proofs.Common.{◌≡◌, ◌∙◌, ◌⊎◌, inl, inr, ℕ, true, [], ◌∷◌, codes, arith, rules}
use Rattle.cue_syntax.specs.Recogniser.{ParserRefusesAt, text}
use Rattle.cue_syntax.proofs.MovesAndStops.{err_from, moves_then, moves_more, refused_behind, refused_end, halted_behind}
use Rattle.cue_syntax.proofs.MovesOverTexts.{text_package, package_comma, package_end_halts}
use Rattle.cue_syntax.proofs.file.package.Goals as goal
use Rattle.cue_syntax.proofs.file.package.Goals.{else-not-comma-via-then-not-comma+else-not-is_at_end, else-not-comma-via-else-not-comma}

pub returns-in_err-name-clause-refused : goal.returns-in_err-name-clause-refused
returns-in_err-name-clause-refused c =
    let word : c.in-Name.word ≡ codes "package" = search rules in
    err_from (λ r. (room : ℕ) → ParserRefusesAt room c.args.cursor.end (text ∷ []) c.args.cursor.rest.now r) c.from_residual.result _ c.from_residual.ensures.1
    (λ room. refused_behind (text_package c.in-Some.token.now c.in-Some.ensures.first c.in-Name.is word) (λ none. absurd none) (refused_end c.in-Some.ensures.end (c.in_err-name.ensures.refused room)))

pub returns-then-not-is_at_end-clause-refused : goal.returns-then-not-is_at_end-clause-refused
returns-then-not-is_at_end-clause-refused c room =
    let word : c.in-Name.word ≡ codes "package" = search rules in
    let some : c.trailing_comma-comma.result.1.rest.now ≡ [] → ⊥ = search rules in
    let halts = package_end_halts c.trailing_comma-comma.result.0 c.if-not-comma.true c.trailing_comma-comma.ensures.reads c.trailing_comma-comma.ensures.missing some in
    halted_behind (moves_more (omega arith) (moves_then (moves_then (text_package c.in-Some.token.now c.in-Some.ensures.first c.in-Name.is word) c.in_ok-name.ensures.moves) halts.0))
    (c.trailing_comma-comma.ensures.onward.end ∙ c.in_ok-name.ensures.end ∙ c.in-Some.ensures.end) c.syntax.ensures halts.1

pub returns-clause-moves : goal.returns-clause-moves
returns-clause-moves c =
    let word : c.in-Name.word ≡ codes "package" = search rules in
    let which : (c.trailing_comma-comma.result.0 ≡ true) ⊎ (c.trailing_comma-comma.result.1.rest.now ≡ []) =
    elim c.else-not-comma.branch [
      | else-not-comma-via-then-not-comma+else-not-is_at_end w ↦ inr (w.is_at_end.ensures.0 w.if-not-is_at_end.false)
      | else-not-comma-via-else-not-comma w ↦ inl w.if-not-comma.false
    ] in
    moves_then (moves_then (text_package c.in-Some.token.now c.in-Some.ensures.first c.in-Name.is word) c.in_ok-name.ensures.moves) (package_comma c.trailing_comma-comma.result.0 which c.trailing_comma-comma.ensures.reads)
