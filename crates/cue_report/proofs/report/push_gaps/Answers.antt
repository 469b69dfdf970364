use Rattle.std.proofs.Common.{◌++◌, codes, string_bytes, ap, ◌∙◌}
use Rattle.cue_report.specs.Lines.{line_of_report, gap_line}
use Rattle.cue_report.proofs.Texts.{next_piece}
use Rattle.cue_report.proofs.report.push_gaps.Goals as goal

pub loop-gap-preserved : goal.loop-gap-preserved
loop-gap-preserved c =
    let gap = c.gap-item.result in
    next_piece gap_line c.args.gaps.now c.loop-gap.gap-index gap _ _ _ c.loop-gap-test.true c.gap-item.is c.loop-gap.invariant
    (c.in_ok-push_line.ensures ∙ ap (λ why. string_bytes c.loop-gap.out ++ line_of_report (codes "incomplete ") gap.path why) c.gap_reason.ensures)
