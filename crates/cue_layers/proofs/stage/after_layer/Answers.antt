use Rattle.std.proofs.Common.{arith}
use Rattle.cue_layers.proofs.Heads.{after_whole}
use Rattle.cue_layers.proofs.stage.after_layer.Goals as goal

pub returns : goal.returns
returns c =
    after_whole c.args.read.count c.args.read.layers.items c.requires.front c.requires.some (omega (arith, c.requires.few, c.if-len-count.false, c.len.ensures))
