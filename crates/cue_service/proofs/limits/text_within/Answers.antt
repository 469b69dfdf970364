use Rattle.std.proofs.Common.{arith, ℕ, List, [], Some, IfOk, OnErr, subst}
use Rattle.cue_replica.specs.Answers.{of_text, WritesAnswer, WritesAnswerPrefix}
use Rattle.cue_service.proofs.Bounded.{told_over, written}
use Rattle.cue_service.proofs.limits.text_within.Goals as goal

pub returns-then-length-limit-clause-none : goal.returns-then-length-limit-clause-none
returns-then-length-limit-clause-none c =
    let front = c.write_answer-told.new.out.bytes.items in
    let question = of_text c.args.question in
    told_over c.write_answer-told.result c.args.limit question c.args.site.now front
    (omega (arith, c.if-length-limit.true, c.len-length.ensures, c.write_answer-told.new.out.bytes.ok.0))
    (subst (λ (l : List ℕ). IfOk c.write_answer-told.result (λ status. WritesAnswer question c.args.site.now status (Some l) (Some front))) c.new-front.ensures.bytes c.write_answer-told.ensures.told)
    (subst (λ (l : List ℕ). OnErr c.write_answer-told.result (WritesAnswerPrefix question c.args.site.now (Some l) (Some front))) c.new-front.ensures.bytes c.write_answer-told.ensures.begun)

pub returns-clause-some : goal.returns-clause-some
returns-clause-some c =
    let front = c.write_answer-told.new.out.bytes.items in
    let question = of_text c.args.question in (
      written question c.args.site.now c.in_ok-status.status front
          (subst (λ (l : List ℕ). WritesAnswer question c.args.site.now c.in_ok-status.status (Some l) (Some front)) c.new-front.ensures.bytes c.in_ok-status.ensures.told),
      omega (arith, c.if-length-limit.false, c.len-length.ensures, c.write_answer-told.new.out.bytes.ok.0),
    )
