use Rattle.std.proofs.Common.{map, arith}
use Rattle.cue_layers.proofs.Maps.{joins_puts}
use Rattle.cue_layers.proofs.OneSpelling.{map_of_bytes}
use Rattle.cue_layers.specs.Maps.{put_of}
use Rattle.cue_layers_program.proofs.joining.take_layers.Goals as goal

pub returns-clause-joins : goal.returns-clause-joins
returns-clause-joins c puts of =
    let other = c.in_ok-other.other in
    let spelled = c.in_ok-other.ensures.ok in
    (other, spelled, joins_puts c.args.all.now other c.join.new.self puts (map put_of other) of (map_of_bytes c.args.bytes.now other (omega arith) spelled) c.in_ok-join.ensures.ok)
