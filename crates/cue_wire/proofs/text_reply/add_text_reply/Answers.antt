use Rattle.std.proofs.Common.{◌≡◌, ◌++◌, OnOk, Some, subst}
use Rattle.cue_replica.specs.Answers.{of_text, WritesAnswerPrefix}
use Rattle.cue_wire.specs.Inner.Pages.{page_bytes}
use Rattle.cue_wire.specs.Serving.{refused_reply}
use Rattle.cue_wire.proofs.Answered.{answered_long}
use Rattle.cue_wire.proofs.text_reply.add_text_reply.Goals as goal

pub returns-in-Err-clause-ok : goal.returns-in-Err-clause-ok
returns-in-Err-clause-ok c =
    let page = page_bytes c.write_answer.new.out in
    let begun = subst (λ blank. WritesAnswerPrefix (of_text c.args.question) c.args.site.now (Some blank) (Some page)) c.new-page.ensures c.in-Err.ensures.begun in
    answered_long (of_text c.args.question) c.args.site.now page c.args.out.now.items c.refuse.new.out.items c.refuse.result (c.is_full.ensures.0 c.if-is_full.true) begun
    (subst (λ why. OnOk c.refuse.result (c.refuse.new.out.items ≡ c.args.out.now.items ++ refused_reply why)) c.at.ensures c.refuse.ensures.ok)
