use Rattle.std.proofs.Common.{drop}
use Rattle.cue_scope.specs.Kept.{nodes_kept}
use Rattle.cue_eval.proofs.Taking.{Taking}
use Rattle.cue_eval.proofs.definitions.EvaluatedDefinitions.+body.Given as goal

abbrev pub invariant-parts-loop-part : goal.invariant-parts-loop-part
invariant-parts-loop-part l = Taking (nodes_kept l.definitions) l.all_rows.items l.all_dots.items l.scalars.items l.parts (drop l.part-index l.parts) l.fn.self l.self
