use Rattle.std.proofs.Common.{◌⊎◌, arith}
use Rattle.cue_policies.specs.Patterns.{MatchesPattern, IsPatternOf}
use Rattle.cue_policies.specs.declared.part.Role.TheVariants as roles
use Rattle.cue_policies.specs.Inner.Parts.{HasPartAt, IsBelow, IsIn, kind_of, role_below}
use Rattle.cue_policies.proofs.Gains.{gains_beside, gains_more, gains_done}
use Rattle.cue_policies.proofs.below.add_below.Goals as goal

pub loop-pattern-init : goal.loop-pattern-init
loop-pattern-init c = λ next.
    gains_beside (IsIn next c.add_named.new.found.items) (IsIn next c.args.found.now.items)
    ((¬ IsPatternOf (kind_of c.args.part.now.role) c.args.label.now) × HasPartAt c.args.part.now (role_below c.args.part.now.role) c.args.label.now next)
    (λ own. IsPatternOf (kind_of c.args.part.now.role) own × MatchesPattern own c.args.label.now × HasPartAt c.args.part.now roles.Pattern own next) c.args.patterns.now (c.in_ok-add_named.ensures next)

pub loop-pattern-preserved : goal.loop-pattern-preserved
loop-pattern-preserved c = λ next.
    gains_more (IsIn next c.loop-pattern.found.items) (IsIn next c.add_bound.new.found.items)
    (λ own. IsPatternOf (kind_of c.args.part.now.role) own × MatchesPattern own c.args.label.now × HasPartAt c.args.part.now roles.Pattern own next) c.args.patterns.now c.loop-pattern.pattern-index c.pattern-item.result
    (IsIn next c.args.found.now.items ⊎ IsBelow c.args.patterns.now c.args.label.now c.args.part.now next)
    c.loop-pattern-test.true c.pattern-item.is (c.in_ok-add_bound.ensures next) (c.loop-pattern.invariant next)

pub returns : goal.returns
returns c = λ next.
    gains_done (IsIn next c.loop-pattern.found.items)
    (λ own. IsPatternOf (kind_of c.args.part.now.role) own × MatchesPattern own c.args.label.now × HasPartAt c.args.part.now roles.Pattern own next) c.args.patterns.now c.loop-pattern.pattern-index
    (IsIn next c.args.found.now.items ⊎ IsBelow c.args.patterns.now c.args.label.now c.args.part.now next)
    (omega (arith, c.loop-pattern-test.false)) (c.loop-pattern.invariant next)
