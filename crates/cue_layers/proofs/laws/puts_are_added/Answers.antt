use Rattle.cue_layers.proofs.Adding.{adds_puts}
use Rattle.cue_layers.proofs.laws.puts_are_added.Goals as goal

pub returns : goal.returns
returns c = adds_puts
