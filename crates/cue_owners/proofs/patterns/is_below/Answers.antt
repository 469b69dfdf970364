use Rattle.cue_owners.proofs.Fitting.{below, beside}
use Rattle.cue_owners.proofs.patterns.is_below.Goals as goal

pub returns-in-None-behind_front : goal.returns-in-None-behind_front
returns-in-None-behind_front c = beside c.args.front.now c.args.target.now c.in-Some.rest.now c.in-Some.ensures c.in-None-behind_front.ensures

pub returns-in-Some-behind_front : goal.returns-in-Some-behind_front
returns-in-Some-behind_front c =
    below c.args.front.now c.args.target.now c.in-Some.rest.now c.in-Some-behind_front.field-0.now c.in-Some.ensures c.in-Some-behind_front.ensures
