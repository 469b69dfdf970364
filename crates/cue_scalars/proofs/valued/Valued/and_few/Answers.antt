use Rattle.std.proofs.Common.{◌≡◌, ◌∷◌, sym, ap, ◌∙◌}
use Rattle.std.specs.Vec.Iter.{into_iter_items}
use Rattle.std.proofs.lemmas.Result.{IfOk-weaker}
use Rattle.cue_scalars.proofs.Conjunctions.{all_of-two}
use Rattle.cue_scalars.proofs.valued.Valued.and_few.Goals as goal

pub returns : goal.returns
returns c =
    let rest = into_iter_items c.next-2.new.self in
    let is : c.args.values.items ≡ c.in-Some.first ∷ c.in-Some-next.second ∷ rest =
    sym c.into_iter-rest.ensures.rest ∙ c.in-Some.ensures.items ∙ ap (λ later. c.in-Some.first ∷ later) c.in-Some-next.ensures.items in
    IfOk-weaker c.and.result _ _ (λ met h. h ∙ all_of-two c.in-Some.first c.in-Some-next.second rest c.args.values.items c.requires.few is) c.and.ensures
