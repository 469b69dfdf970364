use Rattle.std.proofs.Common.{◌≡◌, List, subst}
use Rattle.std.specs.List.{AllByRecursion}
use Rattle.cue_layers.specs.declared.layer.Layer.{Layer}
use Rattle.cue_layers.specs.Layers.{key, key_of}
use Rattle.cue_layers.specs.Puts.{HasElement}
use Rattle.cue_layers.specs.Inner.Places.{IsPlace, IsGap}
use Rattle.cue_layers.proofs.Replacing.{place_at, gap_none}
use Rattle.cue_layers.proofs.layers.Layers.get.Goals as goal

pub returns-in-Ok-clause-some : goal.returns-in-Ok-clause-some
returns-in-Ok-clause-some c =
    let entries = c.self.inside.entries.items in
    let k = key c.args.kind c.args.name.now in
    let l = c.index.result.now in
    let P : List Layer → Type 0 = λ ls. IsPlace ls k c.in-Ok.at in
    let Q : List Layer → Type 0 = λ ls. HasElement ls l in
    let here = place_at entries k c.in-Ok.at l (subst P c.as_slice.ensures.value c.in-Ok.ensures) c.index.ensures in
    (subst Q c.self.view_is here.0, here.1)

pub returns-in-Err-clause-none : goal.returns-in-Err-clause-none
returns-in-Err-clause-none c =
    let entries = c.self.inside.entries.items in
    let k = key c.args.kind c.args.name.now in
    let P : List Layer → Type 0 = λ ls. IsGap ls k c.in-Err.field-0 in
    let Q : List Layer → Type 0 = λ ls. AllByRecursion (λ layer. ¬ (key_of layer ≡ k)) ls in
    subst Q c.self.view_is (gap_none entries k c.in-Err.field-0 (subst P c.as_slice.ensures.value c.in-Err.ensures))
