use Rattle.std.proofs.Common.{◌≡◌, ◌∙◌, subst, ◌⊎◌, inr}
use Rattle.cue_syntax.specs.Stops.{IsMemoryParserStop}
use Rattle.cue_syntax.specs.Viability.{MissesColon}
use Rattle.cue_syntax.proofs.MovesAndStops.{err_from}
use Rattle.cue_syntax.proofs.MovesOverLabels.{label_lacks}
use Rattle.cue_syntax.proofs.label.label.Goals as goal

pub returns-in_err-after-clause-refused : goal.returns-in_err-after-clause-refused
returns-in_err-after-clause-refused c =
    let m = c.mark-mark in
    let e : m.result.1.end ≡ c.args.cursor.end = m.ensures.onward.end ∙ c.in_ok-name.ensures.onward.end in
    err_from (λ r. IsMemoryParserStop r ⊎ MissesColon c.args.cursor.end c.args.cursor.rest.now r) c.from_residual-in_err-after.result _ c.from_residual-in_err-after.ensures.1
    (inr (subst (λ z. MissesColon z c.args.cursor.rest.now c.in_err-after.field-0.0) e
    (label_lacks c.in_ok-name.name m.result.0 c.requires c.in_ok-name.ensures.spelled m.ensures.spelled m.ensures.question m.ensures.exclamation c.in_err-after.ensures.missing c.in_err-after.ensures.refused)))
