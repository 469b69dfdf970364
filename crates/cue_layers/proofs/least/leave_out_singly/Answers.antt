use Rattle.std.proofs.Common.{arith}
use Rattle.cue_layers.proofs.LeavingOut.{part_of_part, least_left}
use Rattle.cue_layers.proofs.least.leave_out_singly.Goals as goal

pub returns-then-len-before : goal.returns-then-len-before
returns-then-len-before c =
    least_left c.args.limit c.args.layers.items c.rounds.kept.items c.in_ok-kept.kept.items c.rounds.invariant c.in_ok-kept.ensures.kept (omega (arith, c.if-len-before.true, c.len.ensures, c.len-before.ensures))

pub rounds-preserved : goal.rounds-preserved
rounds-preserved c = part_of_part c.args.limit c.args.layers.items c.rounds.kept.items c.in_ok-kept.kept.items c.rounds.invariant c.in_ok-kept.ensures.kept.part
