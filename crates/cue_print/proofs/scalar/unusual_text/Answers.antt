use Rattle.cue_print.proofs.Left.{left_alone}
use Rattle.cue_print.proofs.scalar.unusual_text.Goals as goal

pub returns : goal.returns
returns c = left_alone c.args.row.now.value c.args.row.now.usual c.in_ok-set.set c.known.ensures.value c.known.ensures.usual c.known-2.ensures c.in_ok-set.ensures
