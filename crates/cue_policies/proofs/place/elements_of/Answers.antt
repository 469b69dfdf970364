use Rattle.std.proofs.Common.{◌<◌, ◌∙◌, ◌++◌, ◌∷◌, [], sym, subst}
use Rattle.std.proofs.lemmas.List.Elements.{All-nil, All-same, All-push}
use Rattle.std.proofs.lemmas.Result.{IfOk-weaker}
use Rattle.cue_lattice.specs.Limits.{step_limit}
use Rattle.cue_lattice.specs.OneOf.{OneOf}
use Rattle.cue_lattice.specs.Path.{label, index}
use Rattle.cue_row.specs.declared.step.Step.TheVariants.{Index}
use Rattle.cue_table.specs.Depth.{tree_depth}
use Rattle.cue_policies.proofs.Branches.{AtStep, ItemRefuses, OwnRefuses, branches_answer, branches_no_root}
use Rattle.cue_policies.proofs.Calls.{elements_parts}
use Rattle.cue_policies.proofs.Gains.{left_more, left_done, none_in}
use Rattle.cue_policies.proofs.Gathering.{AreBelow, items_below, item_pushed, no_label_pushed, items_start}
use Rattle.cue_policies.proofs.place.elements_of.Goals as goal

pub loop-number-init : goal.loop-number-init
loop-number-init c =
    let none = c.new-own.ensures.items in
    let all = c.into_iter-number-iterator.ensures.into_iter_gives ∙ c.items-number-items.ensures.list in
    record {
      gains = λ i path question. items_start c.args.branch.now i path question (OneOf (AtStep (index i) path question) c.new-own.result.items) c.into_iter-number-iterator.result (none_in (AtStep (index i) path question) c.new-own.result.items none) all;
      no_labels = λ text path question. none_in (AtStep (label text) path question) c.new-own.result.items none;
      low = All-same (λ one. tree_depth one.1 < step_limit) c.new-own.result.items [] none (All-nil (λ one. tree_depth one.1 < step_limit));
      left = items_below c.args.branch.now c.into_iter-number-iterator.result all c.requires;
    }

pub loop-number-preserved : goal.loop-number-preserved
loop-number-preserved c =
    let cut = c.in-Some.ensures.steps in
    let below = subst (AreBelow step_limit) cut c.loop-number.invariant.left in
    let table = c.in_ok-to_table.ensures in
    record {
      gains = λ i path question.
          left_more (OneOf (AtStep (index i) path question) c.loop-number.own.items) (OneOf (AtStep (index i) path question) c.push.new.self.items) (ItemRefuses i path question) c.loop-number.number-iterator c.next.new.self
          (c.in-Some.number, c.in-Some.below) (OwnRefuses c.args.branch.now i path question) cut
          (item_pushed i path question c.loop-number.own.items c.push.new.self.items c.in-Some.number c.in_ok-to_table.field-0 c.in-Some.below table c.in_ok-push.ensures.items)
          (c.loop-number.invariant.gains i path question);
      no_labels = λ text path question. no_label_pushed text path question c.loop-number.own.items c.push.new.self.items c.in-Some.number c.in_ok-to_table.field-0 c.in_ok-push.ensures.items (c.loop-number.invariant.no_labels text path question);
      low = All-same (λ one. tree_depth one.1 < step_limit) c.push.new.self.items (c.loop-number.own.items ++ (Index c.in-Some.number, c.in_ok-to_table.field-0) ∷ []) c.in_ok-push.ensures.items
          (All-push (λ one. tree_depth one.1 < step_limit) c.loop-number.own.items (Index c.in-Some.number, c.in_ok-to_table.field-0) c.loop-number.invariant.low (subst (λ t. tree_depth t < step_limit) (sym table) below.0));
      left = below.1;
    }

pub returns-clause-refused : goal.returns-clause-refused
returns-clause-refused c =
    let own = c.in_ok-of_branches.field-0 in
    let given = c.loop-number.own.items in
    let branches = c.in_ok-of_branches.ensures.refused in
    IfOk-weaker c.with_rest.result _ _ (λ whole same.
    elements_parts c.args.branch.now given own whole c.items-number-items.ensures.form same (branches_no_root given own branches)
    (λ l path question h. c.loop-number.invariant.no_labels l path question ((branches_answer given own branches (label l) path question).0 h))
    (λ i path question.
    let here = branches_answer given own branches (index i) path question in
    let all = left_done (OneOf (AtStep (index i) path question) given) (ItemRefuses i path question) c.loop-number.number-iterator (OwnRefuses c.args.branch.now i path question) c.in-None.ensures.steps.0 (c.loop-number.invariant.gains i path question) in
    (λ h. all.0 (here.0 h), λ h. here.1 (all.1 h)))) c.with_rest.ensures.refused
