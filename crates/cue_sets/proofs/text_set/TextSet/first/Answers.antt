use Rattle.std.proofs.Common.{◌<◌, length, sym, ap, subst, ◌∙◌, arith}
use Rattle.std.proofs.lemmas.Grind.{common_steps}
use Rattle.cue_sets.specs.Texts.{IsFirstText}
use Rattle.cue_sets.proofs.Zeros.{first_listed}
use Rattle.cue_sets.proofs.text_set.TextSet.first.Goals as goal

pub returns-clause-some : goal.returns-clause-some
returns-clause-some c =
    let items = c.self.inside.texts.items in
    let some : 0 < length items = grind (arith, common_steps) in
    rw c.in_ok-copy.ensures.text (subst (λ set. IsFirstText set c.index.result.now) (ap (λ b. (b, items)) (sym c.if-self.false) ∙ c.self.view_is) (first_listed items c.index.result.now c.self.invariant some c.index.ensures))
