use Rattle.std.proofs.Common.{subst}
use Rattle.cue_service.specs.declared.desk.SiteCore.{SiteCore}
use Rattle.cue_service.specs.Answering.{AnswersRequest}
use Rattle.cue_service.proofs.site.SiteSettle.call.Goals as goal

pub returns-clause-ok : goal.returns-clause-ok
returns-clause-ok g c = record {
  answer = subst (λ (desk : SiteCore). AnswersRequest desk c.args.request.now c.answer.new.response c.answer.new.self) c.make_room_for-full.ensures.desk c.answer.ensures;
  files = c.make_room_for-full.ensures.files;
}
