use Rattle.cue_replica.proofs.Tellings.{any_err, report_half, report_told}
use Rattle.cue_replica.proofs.answering.write_report.Goals as goal

pub returns-in_err-lacking-clause-begun : goal.returns-in_err-lacking-clause-begun
returns-in_err-lacking-clause-begun g c =
    let taken = g.S.TextSink.taken in
    any_err c.from_residual-in_err-lacking.result _
    (report_half c.args.site.now (taken c.args.out.now) (taken c.write_conflicts.new.out) (taken c.write_gaps.new.out) c.in_ok-conflicting.conflicting
    c.in_ok-conflicting.ensures.lines c.in_err-lacking.ensures.begun)

pub returns-clause-told : goal.returns-clause-told
returns-clause-told g c =
    let taken = g.S.TextSink.taken in
    report_told c.args.site.now (taken c.args.out.now) (taken c.write_conflicts.new.out) (taken c.write_gaps.new.out) c.in_ok-conflicting.conflicting
    c.in_ok-conflicting.ensures.lines c.in_ok-lacking.lacking c.status_of_lines.result c.status_of_lines.ensures c.in_ok-lacking.ensures.lines
