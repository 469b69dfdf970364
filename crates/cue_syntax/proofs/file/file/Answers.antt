use Rattle.std.proofs.Common.{◌≡◌, ◌∙◌, [], ◌∷◌, arith, rules}
use Rattle.cue_syntax.specs.Recogniser.{ParserRefusesAt, text}
use Rattle.cue_syntax.proofs.MovesAndStops.{err_from, moves_then, moves_more, refused_behind, refused_end, halted_behind}
use Rattle.cue_syntax.proofs.MovesOverRows.{top_halts}
use Rattle.cue_syntax.proofs.WordsOfTrees.{read_words}
use Rattle.cue_syntax.specs.Syntax.{entries}
use Rattle.cue_syntax.specs.Words.{HaveWordsEntries}
use Rattle.cue_syntax.proofs.file.file.Goals as goal

pub returns-in_err-row-clause-refused : goal.returns-in_err-row-clause-refused
returns-in_err-row-clause-refused c =
    err_from (λ r. ParserRefusesAt 64 c.args.cursor.end (text ∷ []) c.args.cursor.rest.now r) c.from_residual-in_err-row.result _ c.from_residual-in_err-row.ensures.1
    (refused_behind (moves_more (omega arith) c.in_ok-package.ensures.moves) (λ none. absurd none) (refused_end c.in_ok-package.ensures.end c.in_err-row.ensures.refused))

pub returns-then-not-is_at_end-clause-refused : goal.returns-then-not-is_at_end-clause-refused
returns-then-not-is_at_end-clause-refused c =
    let some : c.in_ok-row.rest.rest.now ≡ [] → ⊥ = search rules in
    halted_behind (moves_then (moves_more (omega arith) c.in_ok-package.ensures.moves) c.in_ok-row.ensures.moves) (c.in_ok-row.ensures.onward.end ∙ c.in_ok-package.ensures.end)
    c.syntax.ensures (top_halts c.in_ok-row.row.comma c.in_ok-row.row.items.items c.in_ok-row.ensures.last c.in_ok-row.ensures.open some)

pub invariant_of-result-2 : goal.invariant_of-result-2
invariant_of-result-2 c =
    let words : HaveWordsEntries (entries c.in_ok-row.row.items.items) = read_words c.each_has_word.ensures c.in_ok-row.ensures.spelled in
    search rules
