use Rattle.std.proofs.Common.{subst}
use Rattle.cue_replica.specs.declared.question.SiteQuestion.{SiteQuestion}
use Rattle.cue_service.specs.Kept.{IsCachedAnswer}
use Rattle.cue_service.proofs.kept.AnswerCache.keep.Goals as goal

pub returns-in-Export : goal.returns-in-Export
returns-in-Export c = λ table kept told. record {
  tag = kept.tag;
  export = subst (λ (q : SiteQuestion). IsCachedAnswer q table c.args.told) c.in-Export.is told;
  print = kept.print;
  report = kept.report;
  state = kept.state;
}

pub returns-in-Print : goal.returns-in-Print
returns-in-Print c = λ table kept told. record {
  tag = kept.tag;
  export = kept.export;
  print = subst (λ (q : SiteQuestion). IsCachedAnswer q table c.args.told) c.in-Print.is told;
  report = kept.report;
  state = kept.state;
}

pub returns-in-Report : goal.returns-in-Report
returns-in-Report c = λ table kept told. record {
  tag = kept.tag;
  export = kept.export;
  print = kept.print;
  report = subst (λ (q : SiteQuestion). IsCachedAnswer q table c.args.told) c.in-Report.is told;
  state = kept.state;
}

pub returns-in-State : goal.returns-in-State
returns-in-State c = λ table kept told. record {
  tag = kept.tag;
  export = kept.export;
  print = kept.print;
  report = kept.report;
  state = subst (λ (q : SiteQuestion). IsCachedAnswer q table c.args.told) c.in-State.is told;
}
