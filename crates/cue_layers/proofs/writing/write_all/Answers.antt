use Rattle.cue_layers.proofs.ReadBytes.{short_names}
use Rattle.cue_layers.proofs.writing.write_all.Goals as goal

pub put_each-requires : goal.put_each-requires
put_each-requires c = short_names c.args.layers.now c.requires.each
