use Rattle.std.proofs.Common.{rules, refl, length, arith}
use Rattle.std.proofs.lemmas.Option.{slice_get_read}
use Rattle.cue_layers_world.proofs.steps.send_from.Goals as goal

pub returns-clause-sends : goal.returns-clause-sends
returns-clause-sends c = (
  c.index-sites-site.result,
  c.in-Ok.bytes,
  slice_get_read c.args.sites.now (length c.args.sites.now) c.args.site c.index-sites-site.result refl (omega arith) c.index-sites-site.is,
  c.in-Ok.ensures,
  search rules,
  search rules,
)
