use Rattle.std.proofs.Common.{◌++◌, ◌∷◌, [], sym, ap, subst, ◌∙◌, true, arith}
use Rattle.cue_lattice.specs.Path.{label, index}
use Rattle.cue_table.specs.Spans.{first_of_span, branches_of_spans}
use Rattle.cue_table.specs.StepsOfCode.{span_of, step_at}
use Rattle.cue_table.specs.Tree.{below, fixed_of}
use Rattle.cue_table.proofs.Spanned.{left_size}
use Rattle.cue_table.proofs.ValidWalks.{below_smaller}
use Rattle.cue_policies.specs.Inner.Forms.{IsForm, below_step}
use Rattle.cue_policies.specs.Inner.Misplaced.{IsBarred, IsMisplacedUp}
use Rattle.cue_policies.specs.Misplaced.{first_steps}
use Rattle.cue_policies.proofs.FormWalks.{form_whole, forms_all, rest_form, no_rest_form}
use Rattle.cue_policies.proofs.Misplacing.{some_is, none_is, label_up, misplaced_up, may_pass, left_first, left_more, found_span, barred_up, rest_into}
use Rattle.cue_policies.proofs.misplaced.+find_in.Goals as goal

pub find_in-requires : goal.find_in-requires
find_in-requires t c =
    let size = left_size (span_of c.in-Some-2.span) c.in-Some-2.below c.loop-span.span-iterator c.next.new.self c.in-Some-2.ensures.steps in
    let small = c.loop-span.invariant.smaller in
    let less = below_smaller c.args.branch.now in
    (omega (arith, c.decreases, size, small, less), tt)

pub loop-span-init : goal.loop-span-init
loop-span-init t c = left_first c.args.in_list c.args.branch.now c.into_iter-span-iterator.result c.spans-span-items.ensures.form (ap branches_of_spans c.into_iter-span-iterator.ensures.into_iter_gives ∙ c.spans-span-items.ensures.list)

-- a pattern in the set of labels of the place
pub returns-in-Some-clause-some : goal.returns-in-Some-clause-some
returns-in-Some-clause-some t c = label_up c.args.in_list c.args.branch.now c.in-Some.pattern.now _ c.in-Some.ensures.some (c.in_ok-behind.ensures ∙ ap (λ slots. first_steps slots ++ (label c.in-Some.pattern.now ∷ [])) c.new.ensures.items)

-- a pattern in a list
pub returns-then-is_barred-clause-some : goal.returns-then-is_barred-clause-some
returns-then-is_barred-clause-some t c =
    let span = span_of c.in-Some-2.span in
    let is = c.is_barred.ensures.0 c.if-is_barred.true in
    barred_up c.args.in_list c.args.branch.now c.loop-span.span-iterator c.next.new.self span c.in-Some-2.below c.in-Some-2.ensures.steps c.loop-span.invariant
    c.spans-span-items.ensures.form (subst (IsBarred c.args.in_list) c.first-step.ensures is) _ (c.in_ok-behind-2.ensures ∙ ap (λ slots. first_steps slots ++ (step_at c.first-step.result ∷ [])) c.new-then-is_barred.ensures.items ∙ ap (λ step. step ∷ []) c.first-step.ensures)

-- one below a span
pub returns-in-Some-3-clause-some : goal.returns-in-Some-3-clause-some
returns-in-Some-3-clause-some t c =
    let span = span_of c.in-Some-2.span in
    let inside = c.is_in_list.ensures ∙ ap (below_step c.args.in_list) c.first-step.ensures in
    let at = found_span c.args.in_list c.args.branch.now c.loop-span.span-iterator c.next.new.self span c.in-Some-2.below c.in-Some-2.ensures.steps c.loop-span.invariant c.spans-span-items.ensures.form in
    let found = some_is c.in_ok-up.field-0 c.in-Some-3.up (λ up. IsMisplacedUp c.is_in_list.result c.in-Some-2.below (first_steps up.items)) c.in-Some-3.is c.in_ok-up.ensures.some in
    misplaced_up c.args.in_list c.args.branch.now c.in-Some-2.below (first_of_span span) (first_steps c.in-Some-3.up.items) _ at
    (subst (λ b. IsMisplacedUp b c.in-Some-2.below (first_steps c.in-Some-3.up.items)) inside found)
    (c.in_ok-behind-3.ensures ∙ ap (λ step. first_steps c.in-Some-3.up.items ++ (step ∷ [])) c.first-step.ensures)

pub loop-span-preserved : goal.loop-span-preserved
loop-span-preserved t c =
    let span = span_of c.in-Some-2.span in
    let inside = c.is_in_list.ensures ∙ ap (below_step c.args.in_list) c.first-step.ensures in
    let may = may_pass c.args.in_list (first_of_span span) (λ is. absurd (let yes = c.is_barred.ensures.1 (subst (IsBarred c.args.in_list) (sym c.first-step.ensures) is) in cc)) in
    left_more c.args.in_list c.args.branch.now c.loop-span.span-iterator c.next.new.self span c.in-Some-2.below c.in-Some-2.ensures.steps c.loop-span.invariant may
    (subst (λ b. IsForm b c.in-Some-2.below) inside (none_is c.in_ok-up.field-0 (IsForm c.is_in_list.result c.in-Some-2.below) c.in_default-2.is c.in_ok-up.ensures.none))

-- nothing was found
pub returns-in_default-rest-clause-none : goal.returns-in_default-rest-clause-none
returns-in_default-rest-clause-none t c =
    let tree = c.args.branch.now in
    let left = c.loop-span.invariant in
    form_whole c.args.in_list tree (record {
      row = c.in_default.ensures.none;
      children = forms_all c.args.in_list (below tree) c.loop-span.span-iterator c.in-None.ensures.steps.0 left.forms;
      rest = no_rest_form tree (sym c.in_default-rest.ensures.rest);
    })

pub returns-in-None-2-clause-none : goal.returns-in-None-2-clause-none
returns-in-None-2-clause-none t c =
    let tree = c.args.branch.now in
    let left = c.loop-span.invariant in
    form_whole c.args.in_list tree (record {
      row = c.in_default.ensures.none;
      children = forms_all c.args.in_list (below tree) c.loop-span.span-iterator c.in-None.ensures.steps.0 left.forms;
      rest = (rest_form tree c.in-Some-rest.rest (sym c.in-Some-rest.ensures.rest)).0 (none_is c.in_ok-find_in.field-0 (IsForm true c.in-Some-rest.rest) c.in-None-2.is c.in_ok-find_in.ensures.none);
    })

-- one in the rest
pub returns-in_ok-behind_rest-in-Some-4-clause-some : goal.returns-in_ok-behind_rest-in-Some-4-clause-some
returns-in_ok-behind_rest-in-Some-4-clause-some t c =
    let tree = c.args.branch.now in
    misplaced_up c.args.in_list tree c.in-Some-rest.rest (index (fixed_of tree)) (first_steps c.in-Some-4.up.items) _
    (rest_into tree c.in-Some-rest.rest (sym c.in-Some-rest.ensures.rest)) (some_is c.in_ok-find_in.field-0 c.in-Some-4.up (λ up. IsMisplacedUp true c.in-Some-rest.rest (first_steps up.items)) c.in-Some-4.is c.in_ok-find_in.ensures.some)
    (c.in_ok-behind_rest-in-Some-4.ensures ∙ ap (λ n. first_steps c.in-Some-4.up.items ++ (index n ∷ [])) c.fixed.ensures.fixed)
