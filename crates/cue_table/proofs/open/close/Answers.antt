use Rattle.std.proofs.Common.{◌≤◌, ◌<◌, false, length, true, sym, ap, subst, ◌∙◌, arith}
use Rattle.cue_table.specs.Form.{IsRowKept, IsTreeTaken, IsTree}
use Rattle.cue_table.specs.Inner.Drafts.{IsDraftWith}
use Rattle.cue_table.specs.Inner.Opened.{hang_branch, IsOpen}
use Rattle.cue_table.specs.SlotsOfCode.{slot_of}
use Rattle.cue_table.proofs.Drafting.{closes_left, closes_more, closes_none, closes_open, closes_same, closes_taken}
use Rattle.cue_table.proofs.open.close.Goals as goal

pub hang-requires-clause-opened : goal.hang-requires-clause-opened
hang-requires-clause-opened g c =
    let P = IsRowKept g.R.Narrow.refuses g.R.Narrow.is_value in
    let l = c.loop-alloc in
    let more : c.args.count < length l.above.items = omega (arith, c.len.ensures, c.loop-alloc-test.true) in
    subst (λ t. IsOpen P (t, slot_of c.parent.inside.slot)) (sym c.replace-branch.ensures.after)
    (subst (IsOpen P) (sym c.parent.view_is) (closes_open P c.args.count c.args.above.now.items c.args.last.now l.above.items l.last l.invariant c.pop.new.self.items c.in-Some.parent c.in-Some.ensures.items more))

pub hang-requires-clause-form : goal.hang-requires-clause-form
hang-requires-clause-form g c =
    let P = IsRowKept g.R.Narrow.refuses g.R.Narrow.is_value in
    subst (IsTree P) (sym c.replace-branch.ensures.value) c.loop-alloc.invariant.form

pub hang-requires-clause-taken : goal.hang-requires-clause-taken
hang-requires-clause-taken g c =
    let P = IsRowKept g.R.Narrow.refuses g.R.Narrow.is_value in
    let l = c.loop-alloc in
    let more : c.args.count < length l.above.items = omega (arith, c.len.ensures, c.loop-alloc-test.true) in
    subst IsTreeTaken (sym c.replace-branch.ensures.value) (closes_taken P c.args.count c.args.above.now.items c.args.last.now l.above.items l.last l.invariant c.pop.new.self.items c.in-Some.parent c.in-Some.ensures.items more)

pub returns-then-not-branch : goal.returns-then-not-branch
returns-then-not-branch g c =
    let P = IsRowKept g.R.Narrow.refuses g.R.Narrow.is_value in
    let l = c.loop-alloc in
    let more : c.args.count < length l.above.items = omega (arith, c.len.ensures, c.loop-alloc-test.true) in
    let parent = c.in-Some.parent in
    let whole = (λ i. hang_branch (c.replace-branch.ensures.after i) (slot_of c.parent.inside.slot) (c.replace-branch.ensures.value i)) ∙ ap (λ o. hang_branch o.0 o.1 l.last) c.parent.view_is in
    let not = subst (λ t. IsDraftWith P t c.hang.new.node false) whole (subst (IsDraftWith P (hang_branch c.replace-branch.new.dest (slot_of c.parent.inside.slot) c.replace-branch.result) c.hang.new.node) c.if-not-branch.true c.in_ok-hang.ensures) in
    closes_none P c.args.count c.args.above.now.items c.args.last.now l.above.items l.last l.invariant c.pop.new.self.items parent c.in-Some.ensures.items more not

pub returns-after-loop-alloc : goal.returns-after-loop-alloc
returns-after-loop-alloc g c =
    let P = IsRowKept g.R.Narrow.refuses g.R.Narrow.is_value in
    let l = c.loop-alloc in
    let few : length l.above.items ≤ c.args.count = omega (arith, c.len.ensures, c.loop-alloc-test.false) in
    let same = closes_same P c.args.count c.args.above.now.items c.args.last.now l.above.items l.last l.invariant few in
    (closes_left P c.args.count c.args.above.now.items c.args.last.now l.above.items l.last l.invariant few, (same, subst (IsTree P) same l.invariant.form))

pub loop-alloc-preserved : goal.loop-alloc-preserved
loop-alloc-preserved g c =
    let P = IsRowKept g.R.Narrow.refuses g.R.Narrow.is_value in
    let l = c.loop-alloc in
    let more : c.args.count < length l.above.items = omega (arith, c.len.ensures, c.loop-alloc-test.true) in
    let whole = (λ i. hang_branch (c.replace-branch.ensures.after i) (slot_of c.parent.inside.slot) (c.replace-branch.ensures.value i)) ∙ ap (λ o. hang_branch o.0 o.1 l.last) c.parent.view_is in
    let is = subst (λ t. IsDraftWith P t c.hang.new.node true) whole (subst (IsDraftWith P (hang_branch c.replace-branch.new.dest (slot_of c.parent.inside.slot) c.replace-branch.result) c.hang.new.node) c.if-not-branch.false c.in_ok-hang.ensures) in
    closes_more P c.args.count c.args.above.now.items c.args.last.now l.above.items l.last l.invariant c.pop.new.self.items c.in-Some.parent c.in-Some.ensures.items more c.hang.new.node is.0 (subst (IsTree P) (sym is.0) is.1)
