use Rattle.std.proofs.Common.{◌≡◌, ◌++◌, List, OnOk, ℕ, subst}
use Rattle.cue_replica.specs.declared.question.SiteQuestion.{SiteQuestion}
use Rattle.cue_wire.specs.Serving.{IsRequestAnswered}
use Rattle.cue_wire.proofs.Answered.{answered_state}
use Rattle.cue_wire.proofs.answer.add_answer.Goals as goal

pub returns-in-None-clause-ok : goal.returns-in-None-clause-ok
returns-in-None-clause-ok c =
    answered_state c.args.question c.args.site.now c.args.out.now.items c.add_state_reply.new.out.items c.add_state_reply.result c.in-None.ensures.state c.add_state_reply.ensures.ok

pub returns-in-Some-clause-ok : goal.returns-in-Some-clause-ok
returns-in-Some-clause-ok c =
    subst (λ (question : SiteQuestion). OnOk c.add_text_reply.result ((reply : List ℕ) × IsRequestAnswered question c.args.site.now reply × (c.add_text_reply.new.out.items ≡ c.args.out.now.items ++ reply))) c.in-Some.ensures.text c.add_text_reply.ensures.ok
