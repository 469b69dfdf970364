use Rattle.cue_owners.proofs.Fitting.{layer_key, policy_key}
use Rattle.cue_owners.proofs.forms.is_key.Goals as goal

pub returns-in-Some : goal.returns-in-Some
returns-in-Some c = layer_key c.args.word.now c.in-Some.name.now c.is_name.result c.in-Some.ensures c.is_name.ensures

pub returns-in-Some-behind_front : goal.returns-in-Some-behind_front
returns-in-Some-behind_front c =
    policy_key c.args.word.now c.in-Some-behind_front.name.now c.is_name-in-Some-behind_front.result c.in-None.ensures c.in-Some-behind_front.ensures c.is_name-in-Some-behind_front.ensures
