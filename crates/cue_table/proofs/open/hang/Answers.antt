use Rattle.std.proofs.Common.{sym, ap, subst, ◌∙◌}
use Rattle.cue_row.specs.Steps.{step_of}
use Rattle.cue_table.specs.Form.{IsRowKept, IsTree}
use Rattle.cue_table.specs.Inner.Form.{StepsRise}
use Rattle.cue_table.specs.Inner.Loose.{IsBehind}
use Rattle.cue_table.specs.Inner.Opened.{hang_branch, IsOpen}
use Rattle.cue_table.specs.Inner.View.{branches}
use Rattle.cue_table.specs.Slots.{at, from}
use Rattle.cue_table.specs.SlotsOfCode.{slot_of}
use Rattle.cue_table.specs.Tree.{below}
use Rattle.cue_table.specs.declared.node.Onward.{Onward}
use Rattle.cue_table.proofs.Closing.{hung_at_form, hung_from_form}
use Rattle.cue_table.proofs.Drafting.{form_rise, keeps_none, pushed, put}
use Rattle.cue_table.proofs.Owned.{own_below}
use Rattle.cue_table.proofs.open.hang.Goals.{in-Some-3, in-None-3}
use Rattle.cue_table.proofs.open.hang.Goals as goal

pub begins_right-requires : goal.begins_right-requires
begins_right-requires g c =
    let P = IsRowKept g.R.Narrow.refuses g.R.Narrow.is_value in
    let own = own_below c.node.inside c.args.node.now c.node.view_is (keeps_none c.node.inside c.args.node.now c.node.view_is c.requires.opened.rest) in
    subst (λ cs. StepsRise (branches cs)) (sym c.deref.ensures.value) (subst StepsRise own (form_rise P c.args.node.now c.requires.opened.form))

pub returns-in_ok-push-in-At : goal.returns-in_ok-push-in-At
returns-in_ok-push-in-At g c =
    let P = IsRowKept g.R.Narrow.refuses g.R.Narrow.is_value in
    let node = c.args.node.now in
    let child = c.in_ok-new-in-At.field-0 in
    let slot = ap slot_of c.in-At.is in
    let opened = subst (λ s. IsOpen P (node, s)) slot c.requires.opened in (
      pushed c.node.inside node c.push.new.self.items child c.node.view_is c.requires.opened.rest c.in_ok-push-in-At.ensures.items
          ∙ (λ i. hang_branch node (at (step_of (c.in_ok-new-in-At.ensures.step i))) (c.in_ok-new-in-At.ensures.node i)) ∙ ap (λ s. hang_branch node s c.args.branch) (sym slot),
      subst (λ s. IsTree P (hang_branch node s c.args.branch)) (sym slot) (hung_at_form P node (step_of c.in-At.step) c.args.branch opened c.requires.taken c.requires.form),
    )

pub returns-in_ok-new-in-From : goal.returns-in_ok-new-in-From
returns-in_ok-new-in-From g c =
    let P = IsRowKept g.R.Narrow.refuses g.R.Narrow.is_value in
    let node = c.args.node.now in
    let number = c.in-From.number in
    let slot = ap slot_of c.in-From.is in
    let opened = subst (λ s. IsOpen P (node, s)) slot c.requires.opened in
    let b = c.in_ok-new-in-From.field-0 in
    let from_is = ap (λ (o : Onward _ _). o.from) c.in_ok-new-in-From.ensures.ok ∙ c.rest_only.ensures.1 in
    let node_is = ap (λ (o : Onward _ _). o.node) c.in_ok-new-in-From.ensures.ok ∙ c.rest_only.ensures.2 in
    let own = own_below c.node.inside node c.node.view_is (keeps_none c.node.inside node c.node.view_is c.requires.opened.rest) in
    let begins = c.begins_right.ensures.0 c.if-not-begins_right.false in
    let behind : IsBehind number c.args.branch (below node) = subst (IsBehind number c.args.branch) (ap branches c.deref.ensures.value ∙ sym own) begins in
    let is =
    put c.node.inside node b c.node.view_is c.requires.opened.rest (ap (λ (o : Onward _ _). o.runs.items) c.in_ok-new-in-From.ensures.ok ∙ c.rest_only.ensures.0)
    ∙ (λ i. hang_branch node (from (from_is i)) (node_is i)) ∙ ap (λ s. hang_branch node s c.args.branch) (sym slot) in
    let form = subst (λ s. IsTree P (hang_branch node s c.args.branch)) (sym slot) (hung_from_form P node number c.args.branch opened c.requires.taken c.requires.form behind c.if-number-gt-INDEXES.false) in
    elim c.match-node.branch [
      | in-Some-3 w ↦ (w.node-is ∙ is, form)
      | in-None-3 w ↦ (w.node-is ∙ is, form)
    ]
