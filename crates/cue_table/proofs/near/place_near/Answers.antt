use Rattle.cue_row.specs.Steps.{step_of}
use Rattle.cue_table.proofs.Nearing.{near_found, rise_take}
use Rattle.cue_table.proofs.near.place_near.Goals as goal

pub place-requires : goal.place-requires
place-requires g c = rise_take c.near_end-end.result c.args.children.now c.requires

pub returns : goal.returns
returns g c = near_found c.args.children.now (step_of c.args.step.now) c.near_end-end.result c.place.result c.requires c.near_end-end.ensures c.place.ensures
