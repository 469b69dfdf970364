use Rattle.std.proofs.Common.{◌≡◌, sym, ◌∙◌}
use Rattle.std.specs.Vec.Iter.{into_iter_items}
use Rattle.cue_lattice.specs.OneOf.{OneOf}
use Rattle.cue_policies.proofs.Gains.{left_more, left_done, none_in}
use Rattle.cue_why.specs.Inner.Parts.{IsIn}
use Rattle.cue_why.specs.Inner.Saying.{RefusesAny}
use Rattle.cue_why.proofs.Saying.{kept_start, no_items}
use Rattle.cue_why.proofs.shown.select_refusing.Goals as goal

pub loop-part-init : goal.loop-part-init
loop-part-init c = λ one.
    kept_start (IsIn one c.in_ok-kept.kept.items) (λ part. (part ≡ one) × RefusesAny c.args.kind part) (into_iter_items c.into_iter-part-iterator.result) c.args.parts.items
    (none_in (λ y. y ≡ one) c.in_ok-kept.kept.items c.in_ok-kept.ensures.items) c.into_iter-part-iterator.ensures.into_iter_gives.0

pub loop-part-preserved : goal.loop-part-preserved
loop-part-preserved c = λ one.
    left_more (IsIn one c.loop-part.kept.items) (IsIn one c.keep_refusing.new.kept.items) (λ part. (part ≡ one) × RefusesAny c.args.kind part) (into_iter_items c.loop-part.part-iterator) (into_iter_items c.next.new.self)
    c.in-Some.part (OneOf (λ part. (part ≡ one) × RefusesAny c.args.kind part) c.args.parts.items) c.in-Some.ensures.steps.0 (c.in_ok-keep_refusing.ensures one) (c.loop-part.invariant one)

pub returns : goal.returns
returns c = λ one.
    let none = no_items (into_iter_items c.loop-part.part-iterator) (sym c.loop-part.part-iterator.rest.ok.0 ∙ c.in-None.ensures.steps.0) in
    left_done (IsIn one c.loop-part.kept.items) (λ part. (part ≡ one) × RefusesAny c.args.kind part) (into_iter_items c.loop-part.part-iterator) (OneOf (λ part. (part ≡ one) × RefusesAny c.args.kind part) c.args.parts.items)
    none (c.loop-part.invariant one)
