use Rattle.std.proofs.Common.{refl}
use Rattle.cue_layers_site.proofs.Kept.{opened}
use Rattle.cue_layers_site.proofs.store.LayersStore.new.Goals as goal

pub returns-clause-kept : goal.returns-clause-kept
returns-clause-kept g c = λ ready stands. opened g.D.Disk.seen g.D.Disk.may_leave _ c.args.map ready stands refl c.new.ensures
