use Rattle.std.proofs.Common.{sym, subst, arith}
use Rattle.cue_policies.specs.Inner.Misplaced.{IsOneOf}
use Rattle.cue_policies.specs.Patterns.{IsPattern}
use Rattle.cue_policies.proofs.Misplacing.{one_at}
use Rattle.cue_policies.proofs.misplaced.pattern_among.Goals as goal

pub returns-then-is_pattern-clause-some : goal.returns-then-is_pattern-clause-some
returns-then-is_pattern-clause-some c = (
  subst IsPattern c.as_str.ensures (c.is_pattern.ensures.0 c.if-is_pattern.true),
  subst (IsOneOf c.args.labels.now) (sym c.label-item.is) (one_at c.args.labels.now c.loop-label.label-index c.label-item.result (omega (arith, c.loop-label-test.true, c.loop-label.auto.label-index-end))),
)
