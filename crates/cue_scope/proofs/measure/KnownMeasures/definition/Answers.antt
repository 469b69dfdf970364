use Rattle.std.proofs.Common.{arith, ◌≡◌, ◌<◌, Some, length, ap, subst}
use Rattle.std.specs.Prelude.{slice_get}
use Rattle.cue_scope.specs.Kept.{nodes_kept}
use Rattle.cue_scope.specs.Listed.{definition_of}
use Rattle.cue_scope.specs.Measures.{IsMeasureKnown}
use Rattle.cue_scope.proofs.Numbers.{listed_at, length_listed}
use Rattle.cue_scope.proofs.Meanings.{uses_at}
use Rattle.cue_scope.proofs.Measuring.{definition_measured}
use Rattle.cue_scope.proofs.measure.KnownMeasures.definition.Goals as goal

pub returns : goal.returns
returns c = λ order o known.
    let ds = nodes_kept c.args.self.now.definitions.now in
    let d = definition_of c.index-all-number.result in
    let inside : c.args.number < length c.all.result.now = let a = length_listed c.all.result.now in let b = ap length c.all.ensures in let r = c.requires in omega arith in
    let is : slice_get ds c.args.number ≡ Some d =
    subst (λ z. slice_get z c.args.number ≡ Some d) c.all.ensures (listed_at c.all.result.now c.args.number c.index-all-number.result inside c.index-all-number.is) in
    let used = subst (λ us. IsMeasureKnown c.args.self.now us) (uses_at ds ds c.args.number d is) known in
    definition_measured ds order c.args.number d c.add_size.result o c.requires is (c.add_size.ensures _ (c.behind_chain.ensures _ (c.expression-value.ensures used)))
