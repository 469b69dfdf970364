use Rattle.cue_service.proofs.Elements.{both_parts, no_first, no_second}
use Rattle.cue_service.proofs.conditions.is_in_front.Goals as goal

pub returns-in_default : goal.returns-in_default
returns-in_default c = no_first c.args.mark.now c.args.tag.now c.args.rest.now c.in_default.ensures

pub returns-in-Some-behind : goal.returns-in-Some-behind
returns-in-Some-behind c =
    both_parts c.args.mark.now c.args.tag.now c.args.rest.now c.in-Some.rest.now c.in-Some-behind.behind.now c.is_end.result c.in-Some.ensures c.in-Some-behind.ensures c.is_end.ensures

pub returns-in-None : goal.returns-in-None
returns-in-None c = no_second c.args.mark.now c.args.tag.now c.args.rest.now c.in-Some.rest.now c.in-Some.ensures c.in-None.ensures
