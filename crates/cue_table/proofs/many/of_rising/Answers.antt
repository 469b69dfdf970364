use Rattle.std.proofs.Common.{arith}
use Rattle.cue_table.proofs.Rising.{rising_form, rising_depth}
use Rattle.cue_table.proofs.many.of_rising.Goals as goal

pub of_root-requires-clause-form : goal.of_root-requires-clause-form
of_root-requires-clause-form g c = (tt, rising_form g.R.Narrow.refuses g.R.Narrow.is_value c.args.children.items c.requires.branches c.requires.rise, tt)

pub of_root-requires-clause-depth : goal.of_root-requires-clause-depth
of_root-requires-clause-depth g c = omega (arith, rising_depth g.R.Narrow.refuses g.R.Narrow.is_value c.args.children.items c.requires.branches c.requires.rise)
