use Rattle.std.proofs.Common.{sym, subst, []}
use Rattle.cue_scope.specs.Kept.{nodes_kept}
use Rattle.cue_scope.specs.Meaning.{meaning_of_number, meant_name}
use Rattle.cue_scope.specs.Measures.{IsMeasured, IsMeasureKnown, total_of}
use Rattle.cue_scope.specs.Uses.{uses_of_name}
use Rattle.cue_scope.proofs.measure.KnownMeasures.name.Goals as goal

pub returns-in-Definition : goal.returns-in-Definition
returns-in-Definition c =
    let ds = nodes_kept c.args.self.now.definitions.now in
    let used = rw c.as_str-in-Definition.ensures.bytes at c.use_definition.ensures in
    subst (λ n. IsMeasureKnown c.args.self.now (uses_of_name ds n) → IsMeasured c.use_definition.result (total_of (meant_name ds (meaning_of_number ds) n) [])) (sym c.in-Definition.is) used
