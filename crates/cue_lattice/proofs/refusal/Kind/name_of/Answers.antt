use Rattle.std.proofs.Common.{sym, arith}
use Rattle.cue_lattice.proofs.Names.{no_name_above}
use Rattle.cue_lattice.proofs.refusal.Kind.name_of.Goals as goal

pub returns-in-26-to-255 : goal.returns-in-26-to-255
returns-in-26-to-255 c = sym (no_name_above c.args.number (omega arith))
