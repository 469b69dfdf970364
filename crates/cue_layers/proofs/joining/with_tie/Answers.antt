use Rattle.std.proofs.Common.{List, ℕ, subst}
use Rattle.std.proofs.lemmas.Result.{IfOk-weaker}
use Rattle.cue_layers.specs.Layers.{key, key_of}
use Rattle.cue_layers.specs.Inner.Merging.{IsTied, IsTiedWith}
use Rattle.cue_layers.specs.Inner.Places.{IsPlace, IsGap}
use Rattle.cue_layers.proofs.Merging.{tied_alone, tied_to}
use Rattle.cue_layers.proofs.Replacing.{place_at}
use Rattle.cue_layers.proofs.joining.with_tie.Goals as goal

pub returns-in-Ok : goal.returns-in-Ok
returns-in-Ok c =
    let own = c.args.own.now in
    let other = c.args.other in
    let l = c.index-own-at.result in
    let P : List ℕ → Type 0 = λ name. IsPlace own (key other.kind name) c.in-Ok.at in
    let here = place_at own (key_of other) c.in-Ok.at l (subst P c.as_str.ensures c.in-Ok.ensures) c.index-own-at.is in
    IfOk-weaker c.unify_tie.result (IsTiedWith l other) (IsTied own other) (λ tied is. tied_to own l other tied c.requires here.0 here.1 is) c.unify_tie.ensures

pub returns-in-Err : goal.returns-in-Err
returns-in-Err c =
    let own = c.args.own.now in
    let other = c.args.other in
    let P : List ℕ → Type 0 = λ name. IsGap own (key other.kind name) c.in-Err.field-0 in
    tied_alone own other c.in-Err.field-0 (subst P c.as_str.ensures c.in-Err.ensures)
