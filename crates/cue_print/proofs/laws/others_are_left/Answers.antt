use Rattle.cue_print.proofs.Left.{left_scalar, left_set}
use Rattle.cue_print.proofs.laws.others_are_left.Goals as goal

pub returns : goal.returns
returns c = record { members = left_scalar; form = left_set }
