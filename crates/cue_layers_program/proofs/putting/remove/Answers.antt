use Rattle.std.proofs.Common.{inl, inr}
use Rattle.cue_layers_program.proofs.Changes.{there}
use Rattle.cue_layers_program.proofs.Results.{err_on}
use Rattle.cue_layers_program.proofs.putting.remove.Goals as goal

pub returns-in_err-layers-clause-stop : goal.returns-in_err-layers-clause-stop
returns-in_err-layers-clause-stop g c =
    err_on c.from_residual-in_err-layers.result c.in_err-layers.field-0.0 _ c.from_residual-in_err-layers.ensures.1
    (inr (inl (c.in_ok-check_name.ensures.name, c.in_err-layers.ensures.stop)))

pub returns-in_err-put_map-clause-stop : goal.returns-in_err-put_map-clause-stop
returns-in_err-put_map-clause-stop g c =
    err_on c.from_residual-in_err-put_map.result c.in_err-put_map.field-0.0 _ c.from_residual-in_err-put_map.ensures.1
    (inr (inr (inr (c.in_ok-layers.layers, c.remove.new.self, c.in_ok-revision.revision, c.read_map.new.rt, c.in_ok-layers.ensures.read, c.in_ok-revision.ensures.ok, c.in_err-put_map.ensures.stop))))

pub returns-clause-removed : goal.returns-clause-removed
returns-clause-removed g c = (
  c.in_ok-layers.layers,
  c.remove.new.self,
  c.read_map.new.rt,
  c.in_ok-layers.ensures.read,
  there c.get.result c.in_ok-layers.layers c.args.kind c.args.name.now c.get.ensures.some _ c.is_none.ensures c.if-is_none.false,
  c.in_ok-revision.ensures.ok,
  c.in_ok-put_map.ensures.put,
)
