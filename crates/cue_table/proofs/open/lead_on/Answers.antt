use Rattle.std.proofs.Common.{◌≡◌, drop, get_or, take, IfOk, slice_set, refl, sym, ap, subst, ◌∙◌}
use Rattle.cue_table.specs.Form.{IsRowKept}
use Rattle.cue_table.specs.SlotsOfCode.{slot_of}
use Rattle.cue_table.specs.Inner.Drafts.{IsDraftWith, LeadsOn}
use Rattle.cue_table.specs.Inner.Opened.{close_trees, hang_branch, IsOpen}
use Rattle.cue_table.proofs.Drafting.{led_by, led_end, led_open, led_taken}
use Rattle.cue_table.proofs.open.lead_on.Goals as goal

pub part_some-above : goal.part_some-above
part_some-above g c = (c.in-Some.is, refl)

pub part_none-above : goal.part_none-above
part_none-above g c = (c.in_default.is, refl)

pub same-branch : goal.same-branch
same-branch g c = refl

pub same-branch-2 : goal.same-branch-2
same-branch-2 g c = refl

pub hang-requires-clause-opened : goal.hang-requires-clause-opened
hang-requires-clause-opened g c =
    let P = IsRowKept g.R.Narrow.refuses g.R.Narrow.is_value in
    let above = c.args.above.now.items in
    let here = subst (λ o. o ≡ get_or above c.args.number o) (sym c.parent.view_is) c.in-Some.ensures.value in
    subst (λ s. IsOpen P (c.parent.inside.node, slot_of s)) (sym c.replace-held.ensures.value)
    (led_open P c.args.number above c.args.branch c.requires.opened c.requires.few (c.parent.inside.node, slot_of c.parent.inside.slot) c.in-Some.ensures.item.3.0 here)

pub hang-requires-clause-form : goal.hang-requires-clause-form
hang-requires-clause-form g c = c.requires.form

pub hang-requires-clause-taken : goal.hang-requires-clause-taken
hang-requires-clause-taken g c =
    let P = IsRowKept g.R.Narrow.refuses g.R.Narrow.is_value in
    let above = c.args.above.now.items in
    let here = subst (λ o. o ≡ get_or above c.args.number o) (sym c.parent.view_is) c.in-Some.ensures.value in
    led_taken P c.args.number above c.args.branch c.requires.opened c.requires.few (c.parent.inside.node, slot_of c.parent.inside.slot) c.in-Some.ensures.item.3.0 here c.requires.taken

pub returns-in-Some : goal.returns-in-Some
returns-in-Some g c =
    let P = IsRowKept g.R.Narrow.refuses g.R.Narrow.is_value in
    let above = c.args.above.now.items in
    let n = c.args.number in
    let node = c.parent.inside.node in
    let slot = slot_of c.parent.inside.slot in
    let here = subst (λ o. o ≡ get_or above n o) (sym c.parent.view_is) c.in-Some.ensures.value in
    let turns = subst (λ s. IfOk c.hang.result (IsDraftWith P (hang_branch node (slot_of s) c.args.branch) c.hang.new.node)) c.replace-held.ensures.value c.hang.ensures in
    subst (λ s. IfOk c.hang.result (LeadsOn P (take n above) (close_trees (drop n above) c.args.branch) (slot_of c.args.slot.now) (slice_set above n (c.hang.new.node, s)))) (sym (ap slot_of (c.replace-held.ensures.after ∙ c.in_ok-next.ensures)))
    (led_by P n above c.args.branch c.requires.opened c.requires.few (node, slot) c.in-Some.ensures.item.3.0 here c.hang.result (slot_of c.args.slot.now) c.hang.new.node turns)

pub returns : goal.returns
returns g c =
    let P = IsRowKept g.R.Narrow.refuses g.R.Narrow.is_value in
    led_end P c.args.number c.args.above.now.items c.args.branch c.requires.opened c.requires.few c.push.new.self.items (slot_of c.args.slot.now) (slot_of c.in_ok-next.next) c.in_default.ensures.item.3 c.in_ok-push.ensures.items (ap slot_of c.in_ok-next.ensures) c.requires.form
