use Rattle.cue_service.proofs.Elements.{not_here, is_here}
use Rattle.cue_service.proofs.conditions.lists_at.Goals as goal

pub returns : goal.returns
returns c =
    is_here _ c.args.field.now c.split_at.result.0.now c.split_at.result.1.now c.args.at c.is_begin.result c.is_in_front.result c.requires c.split_at.ensures.front c.split_at.ensures.back c.is_begin.ensures c.if-not-is_begin.false c.is_in_front.ensures
