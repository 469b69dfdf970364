use Rattle.std.proofs.lemmas.Result.{IfOk-weaker}
use Rattle.cue_policies.proofs.Calls.{if_ok_both, place_parts}
use Rattle.cue_policies.proofs.Places.{place_fit}
use Rattle.cue_policies.proofs.place.place_of.Goals as goal

pub returns-clause-refused : goal.returns-clause-refused
returns-clause-refused c =
    IfOk-weaker c.with_row.result _ _ (λ whole same. place_parts c.args.part.now c.in_ok-elements_of.field-0 whole c.in_ok-elements_of.ensures.refused same) c.with_row.ensures.refused

pub returns-clause-fit : goal.returns-clause-fit
returns-clause-fit c =
    if_ok_both c.with_row.result _ _ _ (λ whole form same top limited.
    place_fit top c.args.part.now whole form (place_parts c.args.part.now c.in_ok-elements_of.field-0 whole c.in_ok-elements_of.ensures.refused same) c.requires.sound limited) c.with_row.ensures.form c.with_row.ensures.refused
