use Rattle.std.proofs.Common.{◌≡◌, ◌↔◌, ◌⊎◌, max, sym, ap, ◌∙◌, subst, arith}
use Rattle.cue_row.specs.Levels.{level_of}
use Rattle.cue_row.specs.Row.{RefusesAsked}
use Rattle.cue_row.proofs.CoveredRows.{covered_by}
use Rattle.cue_row.proofs.row.RowNarrow.narrow.Goals as goal

pub returns-then-covers-2-clause-ok : goal.returns-then-covers-2-clause-ok
returns-then-covers-2-clause-ok c = λ question.
    let mine = c.args.self.now in let other = c.args.other in
    let is_greater : level_of c.greater-level.result ≡ max (level_of mine.level) (level_of other.level) =
    let e = ap level_of c.level.ensures in let f = ap level_of c.level-2.ensures in let g = c.greater-level.ensures in omega arith in
    subst (λ row. RefusesAsked row question ↔ (RefusesAsked mine question ⊎ RefusesAsked other question))
    (sym c.at_level.ensures ∙ sym c.at_level-then-covers-2.view_is)
    (covered_by mine other c.greater-level.result (c.covers-2.ensures c.if-covers-2.true) is_greater question)
