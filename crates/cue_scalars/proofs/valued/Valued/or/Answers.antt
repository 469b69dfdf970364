use Rattle.std.proofs.Common.{ap, ◌∙◌}
use Rattle.std.specs.List.{list_any}
use Rattle.cue_scalars.proofs.Disjunctions.{disjunction_is, united_within}
use Rattle.cue_scalars.proofs.valued.Valued.or.Goals as goal

pub invariant_of-result : goal.invariant_of-result
invariant_of-result c =
    let values = c.in_ok-values.values.items in
    let usuals = c.in_ok-values.usuals.items in
    record { within = λ default is. united_within values usuals c.in_ok-union_all.field-0 default c.in_ok-unite_defaults.field-0 c.in_ok-values.ensures.within c.in_ok-union_all.ensures c.in_ok-unite_defaults.ensures is }

pub returns : goal.returns
returns c =
    disjunction_is c.is_any_marked-any_marked.result c.args.terms.items c.in_ok-values.values.items c.in_ok-values.usuals.items c.in_ok-union_all.field-0 c.in_ok-unite_defaults.field-0
    (c.is_any_marked-any_marked.ensures ∙ ap (λ ts. list_any (λ term. term.0) ts) c.deref.ensures.value)
    c.in_ok-values.ensures.values c.in_ok-values.ensures.usuals c.in_ok-union_all.ensures c.in_ok-unite_defaults.ensures
