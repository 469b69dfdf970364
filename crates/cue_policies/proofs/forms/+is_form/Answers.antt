use Rattle.std.proofs.Common.{sym, subst, ap, ◌∙◌, arith}
use Rattle.cue_table.specs.StepsOfCode.{span_of}
use Rattle.cue_table.specs.Tree.{below}
use Rattle.cue_table.proofs.Spanned.{left_size}
use Rattle.cue_table.proofs.ValidWalks.{below_smaller}
use Rattle.cue_policies.specs.Inner.Forms.{MayStep, IsForm, below_step}
use Rattle.cue_policies.proofs.FormWalks.{form_parts, forms_more, forms_first}
use Rattle.cue_policies.proofs.forms.+is_form.Goals as goal

pub is_form-requires : goal.is_form-requires
is_form-requires t c =
    let size = left_size (span_of c.in-Some.span) c.in-Some.below c.loop-span.span-iterator c.next.new.self c.in-Some.ensures.steps in
    let less = below_smaller c.args.branch.now in
    (omega (arith, c.decreases), tt)

pub returns-then-not-is_form : goal.returns-then-not-is_form
returns-then-not-is_form t c = (
  λ never. absurd (cc),
  λ h. let parts = form_parts c.args.in_list c.args.branch.now h in
      let here = forms_first c.args.in_list (below c.args.branch.now) c.loop-span.span-iterator c.next.new.self (span_of c.in-Some.span) c.in-Some.below c.in-Some.ensures.steps c.loop-span.invariant.left parts.children in
      let inside = c.is_in_list.ensures ∙ ap (below_step c.args.in_list) c.first-in-loop-span.ensures in
      let yes = c.is_form.ensures.1 (subst (λ b. IsForm b c.in-Some.below) (sym inside) here.1) in
      cc,
)

pub loop-span-preserved : goal.loop-span-preserved
loop-span-preserved t c =
    let size = left_size (span_of c.in-Some.span) c.in-Some.below c.loop-span.span-iterator c.next.new.self c.in-Some.ensures.steps in
    let inside = c.is_in_list.ensures ∙ ap (below_step c.args.in_list) c.first-in-loop-span.ensures in
    let may_is = c.may_step.ensures.0 in
    let below_is = c.is_form.ensures.0 in
    record {
      left = forms_more c.args.in_list (below c.args.branch.now) c.loop-span.span-iterator c.next.new.self (span_of c.in-Some.span) c.in-Some.below c.in-Some.ensures.steps c.loop-span.invariant.left
          (subst (MayStep c.args.in_list) c.first.ensures (may_is (cc))) (subst (λ b. IsForm b c.in-Some.below) inside (below_is (cc)));
      smaller = omega arith;
    }
