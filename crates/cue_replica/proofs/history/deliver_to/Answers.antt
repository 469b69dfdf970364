use Rattle.std.proofs.Common.{◌<◌, ◌^◌, inr, refl, length, arith, subst, List, ℕ}
use Rattle.std.proofs.lemmas.Option.{slice_get_read}
use Rattle.cue_replica.specs.Inner.Events.{HappensAtSite, IsHeld}
use Rattle.cue_replica.specs.World.{TakesState}
use Rattle.cue_replica.proofs.history.deliver_to.Goals as goal

pub returns : goal.returns
returns c =
    let P : List ℕ → Type 0 = λ bytes. HappensAtSite (TakesState bytes) c.args.replicas.now c.args.site c.take_at.new.replicas c.take_at.result in
    let held : length c.as_slice.result.now < 2 ^ 64 = omega arith in
    inr (
      c.index-messages-message.result,
      slice_get_read c.args.messages.now (length c.args.messages.now) c.args.message c.index-messages-message.result refl (omega arith) c.index-messages-message.is,
      subst IsHeld c.as_slice.ensures.value held,
      subst P c.as_slice.ensures.value c.take_at.ensures,
    )
