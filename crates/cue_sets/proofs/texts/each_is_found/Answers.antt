use Rattle.std.proofs.Common.{refl, ◌∙◌, ap, arith}
use Rattle.std.proofs.lemmas.Bool.{false≢true}
use Rattle.cue_sets.specs.Texts.{is_listed}
use Rattle.cue_sets.proofs.Within.{each_by_place, not_each, unlike}
use Rattle.cue_sets.proofs.texts.each_is_found.Goals as goal

pub returns-then-has-wanted : goal.returns-then-has-wanted
returns-then-has-wanted c = (
  λ h. absurd (false≢true h),
  λ a. absurd (not_each c.args.texts.now c.args.others.now c.args.wanted c.loop-text.text-index c.text-item.result c.loop-text-test.true c.text-item.is (λ e. unlike c.has.result c.args.wanted c.if-has-wanted.true (c.has.ensures ∙ ap (is_listed c.args.others.now) c.as_str.ensures ∙ e)) a),
)

pub returns : goal.returns
returns c = (λ h. each_by_place c.args.texts.now c.args.others.now c.args.wanted (λ k d l. c.loop-text.invariant k d (omega arith)), λ a. refl)
