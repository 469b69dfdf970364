use Rattle.std.proofs.Common.{inr, subst}
use Rattle.cue_service.specs.declared.desk.SiteCore.{SiteCore}
use Rattle.cue_service.specs.Answering.{GathersState}
use Rattle.cue_service.proofs.site.SiteGathers.pull_state.Goals as goal

pub returns-then-not-has_room-clause-gathers : goal.returns-then-not-has_room-clause-gathers
returns-then-not-has_room-clause-gathers g c = record {
  gathers = inr c.has_room.ensures.same;
  files = c.has_room.ensures.files;
}

pub returns-clause-gathers : goal.returns-clause-gathers
returns-clause-gathers g c = record {
  gathers = subst (λ (desk : SiteCore). GathersState c.args.bytes.now desk c.gather.new.self) (c.has_room.ensures.desk c.if-not-has_room.false) c.gather.ensures.gathers;
  files = c.has_room.ensures.files;
}
