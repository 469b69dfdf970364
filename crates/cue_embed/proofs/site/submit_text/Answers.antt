use Rattle.std.proofs.Common.{[], ◌∷◌, inl, inr}
use Rattle.std.proofs.lemmas.Result.{err_from_is_err_and, MatchResult-weaker}
use Rattle.cue_lattice.specs.World.{state}
use Rattle.cue_embed.proofs.site.submit_text.Goals as goal

pub returns : goal.returns
returns c =
    let both = c.in_ok-submit.ensures.accepts (state c.args.bytes.now ∷ []) c.in_ok-site.ensures in
    MatchResult-weaker c.answer_question.result c.answer_question.ensures
    (λ answer tells. (c.submit.new.site, both, tells))
    (λ stop memory. inr (both.0.0, inr (both.0.1.0, memory)))

pub returns-in_err-submit : goal.returns-in_err-submit
returns-in_err-submit c =
    let p = err_from_is_err_and c.from_residual-in_err-submit.result c.from_residual-in_err-submit.ensures.1 in
    rw (p.1, p.2) (inr (c.in_ok-site.ensures.0.0, inl c.in_err-submit.ensures.stop))
