use Rattle.std.proofs.Common.{drop}
use Rattle.cue_eval.proofs.TellingParts.{LabelsTold}
use Rattle.cue_eval.proofs.declares.declare_struct.Given as goal

abbrev pub invariant-loop-declaration : goal.invariant-loop-declaration
invariant-loop-declaration l = LabelsTold l.sets.items l.declarations (drop l.declaration-index l.declarations)
