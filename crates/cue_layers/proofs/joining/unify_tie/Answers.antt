use Rattle.cue_layers.proofs.Merging.{other_revision, same_revision}
use Rattle.cue_layers.proofs.joining.unify_tie.Goals as goal

pub returns-then-layer-other : goal.returns-then-layer-other
returns-then-layer-other c = other_revision c.args.layer.now c.args.other c.if-layer-other.true

pub returns : goal.returns
returns c = same_revision c.args.layer.now c.args.other c.in_ok-copy.field-0 c.unify.new.self c.if-layer-other.false c.in_ok-copy.ensures c.in_ok-unify.ensures.ok c.in_ok-unify.ensures.valid
