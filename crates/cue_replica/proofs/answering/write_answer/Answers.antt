use Rattle.std.proofs.Common.{OnErr, subst, sym}
use Rattle.cue_replica.specs.Answers.{of_text, WritesAnswerPrefix}
use Rattle.cue_replica.specs.declared.question.TextQuestion.{TextQuestion}
use Rattle.cue_replica.proofs.answering.write_answer.Goals as goal

pub returns-in-Report-clause-begun : goal.returns-in-Report-clause-begun
returns-in-Report-clause-begun g c =
    let taken = g.S.TextSink.taken in
    subst (λ (question : TextQuestion). OnErr c.write_report.result (WritesAnswerPrefix (of_text question) c.args.site.now (taken c.args.out.now) (taken c.write_report.new.out))) (sym c.in-Report.is)
    c.write_report.ensures.begun
