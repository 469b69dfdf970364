use Rattle.std.proofs.Common.{sym, subst}
use Rattle.std.specs.Prelude.{IfSome}
use Rattle.cue_replica.specs.declared.question.SiteQuestion.{SiteQuestion}
use Rattle.cue_service.specs.Kept.{IsCachedAnswer}
use Rattle.cue_service.proofs.Keeping.{behind}
use Rattle.cue_service.proofs.kept.AnswerCache.find_answer.Goals as goal

pub returns-in-Export : goal.returns-in-Export
returns-in-Export c = λ table kept.
    behind (IsCachedAnswer c.args.question table) c.as_ref.result c.args.self.now.export c.as_ref.ensures.value
    (subst (λ (q : SiteQuestion). IfSome c.args.self.now.export (IsCachedAnswer q table)) (sym c.in-Export.is) kept.export)

pub returns-in-Print : goal.returns-in-Print
returns-in-Print c = λ table kept.
    behind (IsCachedAnswer c.args.question table) c.as_ref-in-Print.result c.args.self.now.print c.as_ref-in-Print.ensures.value
    (subst (λ (q : SiteQuestion). IfSome c.args.self.now.print (IsCachedAnswer q table)) (sym c.in-Print.is) kept.print)

pub returns-in-Report : goal.returns-in-Report
returns-in-Report c = λ table kept.
    behind (IsCachedAnswer c.args.question table) c.as_ref-in-Report.result c.args.self.now.report c.as_ref-in-Report.ensures.value
    (subst (λ (q : SiteQuestion). IfSome c.args.self.now.report (IsCachedAnswer q table)) (sym c.in-Report.is) kept.report)

pub returns-in-State : goal.returns-in-State
returns-in-State c = λ table kept.
    behind (IsCachedAnswer c.args.question table) c.as_ref-in-State.result c.args.self.now.state c.as_ref-in-State.ensures.value
    (subst (λ (q : SiteQuestion). IfSome c.args.self.now.state (IsCachedAnswer q table)) (sym c.in-State.is) kept.state)
