use Rattle.std.proofs.Common.{◌<◌, ◌^◌, inr, refl, length, arith, subst, List, ℕ}
use Rattle.std.proofs.lemmas.Option.{slice_get_read}
use Rattle.cue_layers_world.specs.Inner.Steps.{HappensAtMap, Joins, IsHeld}
use Rattle.cue_layers_world.proofs.steps.deliver_to.Goals as goal

pub returns : goal.returns
returns c =
    let P : List ℕ → Type 0 = λ bytes. HappensAtMap (Joins bytes) c.args.sites.now c.args.site c.join_at.new.sites c.join_at.result in
    let held : length c.as_slice.result.now < 2 ^ 64 = omega arith in
    inr (
      c.index-messages-message.result,
      slice_get_read c.args.messages.now (length c.args.messages.now) c.args.message c.index-messages-message.result refl (omega arith) c.index-messages-message.is,
      subst IsHeld c.as_slice.ensures.value held,
      subst P c.as_slice.ensures.value c.join_at.ensures,
    )
