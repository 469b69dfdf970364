use Rattle.std.proofs.Common.{[], ◌∷◌, inl, inr}
use Rattle.std.proofs.lemmas.Result.{err_from_is_err_and, MatchResult-weaker}
use Rattle.cue_lattice.specs.World.{state}
use Rattle.cue_embed.proofs.site.merge_states.Goals as goal

pub returns : goal.returns
returns c =
    let both = c.in_ok-take.ensures.accepts (state c.args.bytes.now ∷ []) c.in_ok-site.ensures in
    MatchResult-weaker c.answer_question.result c.answer_question.ensures
    (λ answer tells. (c.take.new.site, both, tells))
    (λ stop memory. inr (both.0.0, inr (both.0.1.0, memory)))

pub returns-in_err-take : goal.returns-in_err-take
returns-in_err-take c =
    let p = err_from_is_err_and c.from_residual-in_err-take.result c.from_residual-in_err-take.ensures.1 in
    rw (p.1, p.2) (inr (c.in_ok-site.ensures.0.0, inl c.in_err-take.ensures.stop))
