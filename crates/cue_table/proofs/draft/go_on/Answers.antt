use Rattle.std.proofs.Common.{◌≡◌, ◌+◌, [], None, Some, drop, map, take, true, refl, sym, ap, subst, ◌∙◌, inl, inr, ⊎_elim}
use Rattle.cue_table.specs.Form.{IsRowKept, IsTreeTaken}
use Rattle.cue_table.specs.Inner.Drafts.{IsClosedInto, LeadsOn}
use Rattle.cue_table.specs.Inner.Opened.{close_trees}
use Rattle.cue_table.specs.SlotsOfCode.{slot_of}
use Rattle.cue_table.proofs.Beyond.{free_row, stays_at_last, stays_none}
use Rattle.cue_table.proofs.Drafting.{no_items, no_slots, not_taken, some_slots, stays_seen, taken_found}
use Rattle.cue_table.proofs.GoingOn.{goes_first, goes_few, goes_form, goes_further, goes_no_further, goes_none, goes_opened, goes_taken}
use Rattle.cue_table.proofs.draft.go_on.Goals.{else-is_empty-via-then-is_empty+else-is_some, else-is_empty-via-else-is_empty}
use Rattle.cue_table.proofs.draft.go_on.Goals as goal

pub returns-then-refuses_nothing : goal.returns-then-refuses_nothing
returns-then-refuses_nothing g c =
    let P = IsRowKept g.R.Narrow.refuses g.R.Narrow.is_value in
    free_row P _ c.args.place.now c.args.row (λ k. k.1 (c.is_free-refuses_nothing.ensures.0 c.if-refuses_nothing.true))

pub returns-in_default : goal.returns-in_default
returns-in_default g c =
    let P = IsRowKept g.R.Narrow.refuses g.R.Narrow.is_value in
    let above = c.args.above.now.items in
    let place = c.args.place.now in
    let none = stays_seen above c.deref.result.now place (map slot_of c.slots.result.now) None c.deref.ensures.value c.slots.ensures.list c.in_default.ensures.count in
    stays_none P above c.args.last.now place c.args.row c.requires none

pub returns-then-is_some : goal.returns-then-is_some
returns-then-is_some g c =
    let P = IsRowKept g.R.Narrow.refuses g.R.Narrow.is_value in
    let above = c.args.above.now.items in
    let last = c.args.last.now in
    let place = c.args.place.now in
    let n = c.in-Some.count in
    let stay = stays_seen above c.deref.result.now place (map slot_of c.slots.result.now) (Some n) c.deref.ensures.value c.slots.ensures.list c.in-Some.ensures.count in
    let end = no_slots slot_of c.in-Some.way.now (drop n place) c.is_empty.result (c.in-Some.ensures.beyond ∙ ap (drop n) c.slots.ensures.list) c.is_empty.ensures c.if-is_empty.true in
    let taken = taken_found _ c.non_empty.result last (sym c.is_some.ensures ∙ c.if-is_some.true) c.non_empty.ensures in
    stays_at_last P above last place c.args.row n c.requires stay end taken

pub close-requires-clause-opened : goal.close-requires-clause-opened
close-requires-clause-opened g c = c.requires.opened

pub close-requires-clause-form : goal.close-requires-clause-form
close-requires-clause-form g c = c.requires.form

pub close-requires-clause-taken : goal.close-requires-clause-taken
close-requires-clause-taken g c = ⊎_elim (λ h. inl h.0) (λ t. inr t) c.requires.taken

pub returns-then-not-branch : goal.returns-then-not-branch
returns-then-not-branch g c =
    let P = IsRowKept g.R.Narrow.refuses g.R.Narrow.is_value in
    let above = c.args.above.now.items in
    let last = c.args.last.now in
    let place = c.args.place.now in
    let n = c.in-Some.count in
    let stay = stays_seen above c.deref.result.now place (map slot_of c.slots.result.now) (Some n) c.deref.ensures.value c.slots.ensures.list c.in-Some.ensures.count in
    goes_none P above last place c.args.row n c.requires stay c.close.new.above.items c.close.new.last c.close.new.last (subst (IsClosedInto P above last (n + 1) c.close.new.above.items c.close.new.last) c.if-not-branch.true c.in_ok-close.ensures)

pub returns-in_default-split_first : goal.returns-in_default-split_first
returns-in_default-split_first g c =
    let P = IsRowKept g.R.Narrow.refuses g.R.Narrow.is_value in
    let above = c.args.above.now.items in
    let last = c.args.last.now in
    let place = c.args.place.now in
    let n = c.in-Some.count in
    let stay = stays_seen above c.deref.result.now place (map slot_of c.slots.result.now) (Some n) c.deref.ensures.value c.slots.ensures.list c.in-Some.ensures.count in
    let closes = subst (λ t. IsClosedInto P above last (n + 1) c.close.new.above.items t true) (sym c.replace-branch.ensures.value) (subst (IsClosedInto P above last (n + 1) c.close.new.above.items c.close.new.last) c.if-not-branch.false c.in_ok-close.ensures) in
    let end = c.replace-branch.ensures.after ∙ c.of_row.ensures in
    let beyond = c.in-Some.ensures.beyond ∙ ap (drop n) c.slots.ensures.list in
    let not : drop n place ≡ [] → IsTreeTaken last → ⊥ =
    elim c.else-is_empty.branch [
      | else-is_empty-via-then-is_empty+else-is_some w ↦ λ e t. not_taken _ w.non_empty.result last (sym w.is_some.ensures ∙ w.if-is_some.false) w.non_empty.ensures t
      | else-is_empty-via-else-is_empty w ↦ λ e t. some_slots slot_of c.in-Some.way.now (drop n place) c.is_empty.result beyond c.is_empty.ensures w.if-is_empty.false e
    ] in
    let kept : IsRowKept g.R.Narrow.refuses g.R.Narrow.is_value c.args.row = (c.known.ensures, λ free. let yes = c.is_free-refuses_nothing.ensures.1 free in let no = c.if-refuses_nothing.false in absurd cc) in
    let none : drop n place ≡ [] = sym beyond ∙ ap (map slot_of) (no_items c.in-Some.way.now c.in_default-split_first.ensures.cases) in
    goes_first P above last place c.args.row n c.requires stay c.close.new.above.items c.replace-branch.result closes c.replace-branch.new.dest end not c.slots.ensures.few kept none

pub same-branch : goal.same-branch
same-branch g c = refl

pub lead_on-requires-clause-opened : goal.lead_on-requires-clause-opened
lead_on-requires-clause-opened g c =
    let P = IsRowKept g.R.Narrow.refuses g.R.Narrow.is_value in
    let above = c.args.above.now.items in
    let last = c.args.last.now in
    let place = c.args.place.now in
    let n = c.in-Some.count in
    let stay = stays_seen above c.deref.result.now place (map slot_of c.slots.result.now) (Some n) c.deref.ensures.value c.slots.ensures.list c.in-Some.ensures.count in
    let closes = subst (λ t. IsClosedInto P above last (n + 1) c.close.new.above.items t true) (sym c.replace-branch.ensures.value) (subst (IsClosedInto P above last (n + 1) c.close.new.above.items c.close.new.last) c.if-not-branch.false c.in_ok-close.ensures) in
    goes_opened P above last place c.args.row n c.requires stay c.close.new.above.items c.replace-branch.result closes

pub lead_on-requires-clause-form : goal.lead_on-requires-clause-form
lead_on-requires-clause-form g c =
    let P = IsRowKept g.R.Narrow.refuses g.R.Narrow.is_value in
    let above = c.args.above.now.items in
    let last = c.args.last.now in
    let place = c.args.place.now in
    let n = c.in-Some.count in
    let stay = stays_seen above c.deref.result.now place (map slot_of c.slots.result.now) (Some n) c.deref.ensures.value c.slots.ensures.list c.in-Some.ensures.count in
    let closes = subst (λ t. IsClosedInto P above last (n + 1) c.close.new.above.items t true) (sym c.replace-branch.ensures.value) (subst (IsClosedInto P above last (n + 1) c.close.new.above.items c.close.new.last) c.if-not-branch.false c.in_ok-close.ensures) in
    goes_form P above last place c.args.row n c.requires stay c.close.new.above.items c.replace-branch.result closes

pub lead_on-requires-clause-taken : goal.lead_on-requires-clause-taken
lead_on-requires-clause-taken g c =
    let P = IsRowKept g.R.Narrow.refuses g.R.Narrow.is_value in
    let above = c.args.above.now.items in
    let last = c.args.last.now in
    let place = c.args.place.now in
    let n = c.in-Some.count in
    let stay = stays_seen above c.deref.result.now place (map slot_of c.slots.result.now) (Some n) c.deref.ensures.value c.slots.ensures.list c.in-Some.ensures.count in
    let closes = subst (λ t. IsClosedInto P above last (n + 1) c.close.new.above.items t true) (sym c.replace-branch.ensures.value) (subst (IsClosedInto P above last (n + 1) c.close.new.above.items c.close.new.last) c.if-not-branch.false c.in_ok-close.ensures) in
    goes_taken P above last place c.args.row n c.requires stay c.close.new.above.items c.replace-branch.result closes

pub lead_on-requires-clause-few : goal.lead_on-requires-clause-few
lead_on-requires-clause-few g c =
    let P = IsRowKept g.R.Narrow.refuses g.R.Narrow.is_value in
    let above = c.args.above.now.items in
    let last = c.args.last.now in
    let place = c.args.place.now in
    let n = c.in-Some.count in
    let stay = stays_seen above c.deref.result.now place (map slot_of c.slots.result.now) (Some n) c.deref.ensures.value c.slots.ensures.list c.in-Some.ensures.count in
    let closes = subst (λ t. IsClosedInto P above last (n + 1) c.close.new.above.items t true) (sym c.replace-branch.ensures.value) (subst (IsClosedInto P above last (n + 1) c.close.new.above.items c.close.new.last) c.if-not-branch.false c.in_ok-close.ensures) in
    goes_few P above last place c.args.row n c.requires stay c.close.new.above.items c.replace-branch.result closes

pub returns-then-not-branch-2 : goal.returns-then-not-branch-2
returns-then-not-branch-2 g c =
    let P = IsRowKept g.R.Narrow.refuses g.R.Narrow.is_value in
    let above = c.args.above.now.items in
    let last = c.args.last.now in
    let place = c.args.place.now in
    let n = c.in-Some.count in
    let stay = stays_seen above c.deref.result.now place (map slot_of c.slots.result.now) (Some n) c.deref.ensures.value c.slots.ensures.list c.in-Some.ensures.count in
    let closes = subst (λ t. IsClosedInto P above last (n + 1) c.close.new.above.items t true) (sym c.replace-branch.ensures.value) (subst (IsClosedInto P above last (n + 1) c.close.new.above.items c.close.new.last) c.if-not-branch.false c.in_ok-close.ensures) in
    goes_no_further P above last place c.args.row n c.requires stay c.close.new.above.items c.replace-branch.result closes c.lead_on.new.above.items (slot_of c.in-Some-split_first.slot.now) c.replace-branch.new.dest (subst (LeadsOn P (take n c.close.new.above.items) (close_trees (drop n c.close.new.above.items) c.replace-branch.result) (slot_of c.in-Some-split_first.slot.now) c.lead_on.new.above.items) c.if-not-branch-2.true c.in_ok-lead_on.ensures)

pub returns : goal.returns
returns g c =
    let P = IsRowKept g.R.Narrow.refuses g.R.Narrow.is_value in
    let above = c.args.above.now.items in
    let last = c.args.last.now in
    let place = c.args.place.now in
    let n = c.in-Some.count in
    let stay = stays_seen above c.deref.result.now place (map slot_of c.slots.result.now) (Some n) c.deref.ensures.value c.slots.ensures.list c.in-Some.ensures.count in
    let closes = subst (λ t. IsClosedInto P above last (n + 1) c.close.new.above.items t true) (sym c.replace-branch.ensures.value) (subst (IsClosedInto P above last (n + 1) c.close.new.above.items c.close.new.last) c.if-not-branch.false c.in_ok-close.ensures) in
    let end = c.replace-branch.ensures.after ∙ c.of_row.ensures in
    let beyond = c.in-Some.ensures.beyond ∙ ap (drop n) c.slots.ensures.list in
    let not : drop n place ≡ [] → IsTreeTaken last → ⊥ =
    elim c.else-is_empty.branch [
      | else-is_empty-via-then-is_empty+else-is_some w ↦ λ e t. not_taken _ w.non_empty.result last (sym w.is_some.ensures ∙ w.if-is_some.false) w.non_empty.ensures t
      | else-is_empty-via-else-is_empty w ↦ λ e t. some_slots slot_of c.in-Some.way.now (drop n place) c.is_empty.result beyond c.is_empty.ensures w.if-is_empty.false e
    ] in
    let kept : IsRowKept g.R.Narrow.refuses g.R.Narrow.is_value c.args.row = (c.known.ensures, λ free. let yes = c.is_free-refuses_nothing.ensures.1 free in let no = c.if-refuses_nothing.false in absurd cc) in
    let way = sym (ap (map slot_of) c.in-Some-split_first.ensures.cases.0) ∙ beyond in
    goes_further P above last place c.args.row n c.requires stay c.close.new.above.items c.replace-branch.result closes c.replace-branch.new.dest end not c.slots.ensures.few kept c.lead_on.new.above.items c.open_along.new.above.items (slot_of c.in-Some-split_first.slot.now) (map slot_of c.in-Some-split_first.further.now) way
    (subst (LeadsOn P (take n c.close.new.above.items) (close_trees (drop n c.close.new.above.items) c.replace-branch.result) (slot_of c.in-Some-split_first.slot.now) c.lead_on.new.above.items) c.if-not-branch-2.false c.in_ok-lead_on.ensures) c.in_ok-open_along.ensures
