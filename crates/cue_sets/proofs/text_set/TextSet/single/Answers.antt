use Rattle.std.proofs.Common.{◌≡◌, ℕ, List, length, ◌∙◌, sym, subst, ap, arith}
use Rattle.cue_sets.specs.Texts.{IsOnlyText}
use Rattle.cue_sets.specs.TextLaws.{all_but_several, one_listed, not_one_text}
use Rattle.cue_sets.proofs.text_set.TextSet.single.Goals as goal

pub returns-then-self-clause-none : goal.returns-then-self-clause-none
returns-then-self-clause-none c =
    let items = c.self.inside.texts.items in
    subst (λ set. (t : List ℕ) → IsOnlyText set t → ⊥) (ap (λ b. (b, items)) (sym c.if-self.true) ∙ c.self.view_is) (all_but_several items)

pub returns-then-len-ne1-clause-none : goal.returns-then-len-ne1-clause-none
returns-then-len-ne1-clause-none c =
    let items = c.self.inside.texts.items in
    subst (λ set. (t : List ℕ) → IsOnlyText set t → ⊥) (ap (λ b. (b, items)) (sym c.if-self.false) ∙ c.self.view_is)
    (not_one_text items c.self.invariant (λ e. omega (arith, e)))

pub returns-clause-some : goal.returns-clause-some
returns-clause-some c =
    let items = c.self.inside.texts.items in
    let one : length items ≡ 1 = omega arith in
    rw c.as_str.ensures (subst (λ set. IsOnlyText set c.index.result.now) (ap (λ b. (b, items)) (sym c.if-self.false) ∙ c.self.view_is) (one_listed items c.index.result.now one c.index.ensures))
