use Rattle.cue_row.specs.Steps.{step_of}
use Rattle.cue_places.proofs.Roots.{found_limit}
use Rattle.cue_places.proofs.root.next_below.Goals as goal

pub returns-clause-depth : goal.returns-clause-depth
returns-clause-depth c = found_limit c.args.branch.now (step_of c.args.step.now) c.find.result c.requires c.find.ensures.branch
