use Rattle.std.proofs.Common.{◌≡◌, ◌∷◌, [], List, true, false, inl, inr, ⊎_elim, refl, subst, sym, ◌∙◌, arith}
use Rattle.std.proofs.lemmas.List.{length-append}
use Rattle.std.proofs.lemmas.Result.{err_from_is_err_and}
use Rattle.cue_codec.proofs.Codes.{items_more, items_none}
use Rattle.cue_layers.specs.declared.layer.Layer.{Layer}
use Rattle.cue_layers.specs.Bytes.{layer_bytes}
use Rattle.cue_layers.specs.Inner.Reading.{IsHeld, IsBehind}
use Rattle.cue_layers.proofs.ReadBytes.{one_layer}
use Rattle.cue_layers.proofs.ReadMaps.{more_front, not_behind, none_of_map}
use Rattle.cue_layers.proofs.reading.each_layer.Goals as goal

pub returns-in_err-layer-clause-refused : goal.returns-in_err-layer-clause-refused
returns-in_err-layer-clause-refused c =
    let xs = c.loop-alloc.layers.items in
    let i = c.loop-alloc.invariant in
    let p = err_from_is_err_and c.from_residual.result c.from_residual.ensures.1 in
    rw (p.1, p.2) (⊎_elim (λ m. inl m) (λ h. inr (
      h.0,
      none_of_map c.args.count c.args.bytes.now
          (items_none IsHeld layer_bytes one_layer c.args.count xs c.args.bytes.now c.loop-alloc.rest.now i.front.each (omega arith) i.parts h.1),
    )) c.in_err-layer.ensures.refused)

pub returns-then-not-is_behind-clause-refused : goal.returns-then-not-is_behind-clause-refused
returns-then-not-is_behind-clause-refused c =
    let xs = c.loop-alloc.layers.items in
    let i = c.loop-alloc.invariant in
    let l = c.in_ok-layer.layer in
    let P : List Layer → Type 0 = λ ls. IsBehind ls l in
    inr (
      refl,
      not_behind c.args.count xs l c.args.bytes.now c.loop-alloc.rest.now c.in_ok-layer.after.now i.front c.in_ok-layer.ensures.ok.value (omega arith) i.parts c.in_ok-layer.ensures.ok.parts
          (λ behind. let t : true ≡ false = sym (c.is_behind.ensures.1 (subst P (sym c.as_slice.ensures.value) behind)) ∙ c.if-not-is_behind.true in cc),
    )

pub loop-alloc-preserved : goal.loop-alloc-preserved
loop-alloc-preserved c =
    let xs = c.loop-alloc.layers.items in
    let i = c.loop-alloc.invariant in
    let l = c.in_ok-layer.layer in
    let P : List Layer → Type 0 = λ ls. IsBehind ls l in
    let behind = subst P c.as_slice.ensures.value (c.is_behind.ensures.0 c.if-not-is_behind.false) in
    rw c.in-Ok.ensures.items (record {
      front = more_front xs l i.front behind c.in_ok-layer.ensures.ok.value;
      few = omega (arith, length-append xs (l ∷ []));
      parts = items_more layer_bytes xs l c.args.bytes.now c.loop-alloc.rest.now c.in_ok-layer.after.now i.parts c.in_ok-layer.ensures.ok.parts;
    })
