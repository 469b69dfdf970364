use Rattle.std.proofs.Common.{rules, refl, sym, ap, ◌∙◌, subst}
use Rattle.std.proofs.lemmas.Fn.{filter_same}
use Rattle.cue_sets.specs.Texts.{is_listed, is_text_member, IsAscending}
use Rattle.cue_sets.proofs.Removed.{IsAscending-filter, is_listed-filter}
use Rattle.cue_sets.proofs.text_set.TextSet.keep.Goals as goal

pub invariant_of-self-2 : goal.invariant_of-self-2
invariant_of-self-2 c =
    let kept = filter_same _ (λ t. is_text_member c.args.other.now t) _ (λ x b f' k. search rules) _ _ c.retain.ensures.filtered in
    subst IsAscending (sym kept) (IsAscending-filter (λ t. is_text_member c.args.other.now t) c.self.inside.texts.items c.self.invariant)

pub returns : goal.returns
returns c =
    let kept = filter_same _ (λ t. is_text_member c.args.other.now t) _ (λ x b f' k. search rules) _ _ c.retain.ensures.filtered in
    rw (← c.self.view_is)
    (refl, λ t. ap (λ xs. is_listed xs t) kept ∙ is_listed-filter (λ t. is_text_member c.args.other.now t) c.self.inside.texts.items t)
