use Rattle.std.proofs.Common.{rules, refl, length, arith}
use Rattle.std.proofs.lemmas.Option.{slice_get_read}
use Rattle.cue_replica.proofs.history.send_from.Goals as goal

pub returns-clause-sends : goal.returns-clause-sends
returns-clause-sends c = (
  c.index-replicas-site.result,
  c.in-Ok.bytes,
  slice_get_read c.args.replicas.now (length c.args.replicas.now) c.args.site c.index-replicas-site.result refl (omega arith) c.index-replicas-site.is,
  c.in-Ok.ensures,
  search rules,
  search rules,
)
