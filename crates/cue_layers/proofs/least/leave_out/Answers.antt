use Rattle.cue_layers.proofs.LeavingOut.{part_of_part, least_of_part}
use Rattle.cue_layers.proofs.least.leave_out.Goals as goal

pub sizes-preserved : goal.sizes-preserved
sizes-preserved c = part_of_part c.args.limit c.args.layers.items c.sizes.kept.items c.in_ok-kept.kept.items c.sizes.invariant c.in_ok-kept.ensures.kept.part

pub returns : goal.returns
returns c = least_of_part c.args.limit c.args.layers.items c.sizes.kept.items c.in_ok-least.least.items c.sizes.invariant c.in_ok-least.ensures
