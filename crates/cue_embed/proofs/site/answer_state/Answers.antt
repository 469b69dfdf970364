use Rattle.std.proofs.Common.{inr}
use Rattle.std.proofs.lemmas.Result.{MatchResult-weaker}
use Rattle.cue_embed.proofs.site.answer_state.Goals as goal

pub returns : goal.returns
returns c =
    MatchResult-weaker c.answer_question.result c.answer_question.ensures
    (λ answer tells. (c.in_ok-site.site, c.in_ok-site.ensures, tells))
    (λ stop memory. inr (c.in_ok-site.ensures.0.0, memory))
