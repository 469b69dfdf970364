use Rattle.cue_layers.proofs.Fed.{whole_more}
use Rattle.cue_layers.proofs.stage.Stage.next.Goals as goal

pub returns-in-Whole-clause-ok : goal.returns-in-Whole-clause-ok
returns-in-Whole-clause-ok c = whole_more c.args.self c.in-Whole.field-0 c.args.piece.now c.in-Whole.is c.requires.sound c.requires.some
