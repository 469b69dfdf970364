use Rattle.std.proofs.Common.{take}
use Rattle.cue_eval.specs.Inner.Ready.{all_definitions}
use Rattle.cue_eval.specs.Inner.Parts.{AreAdded}
use Rattle.cue_eval.proofs.tables.TableBuilder.push_definitions.Given as goal

abbrev pub invariant-loop-number : goal.invariant-loop-number
invariant-loop-number l = AreAdded (all_definitions l.self) l.fn.tables.items (take l.number-index l.numbers) l.tables.items
