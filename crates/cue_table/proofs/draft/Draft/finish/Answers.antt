use Rattle.std.proofs.Common.{◌≤◌, ◌∙◌, Some, refl, sym, ap, subst, inl, inr, ⊎_elim}
use Rattle.cue_lattice.specs.Limits.{step_limit}
use Rattle.cue_table.specs.Depth.{tree_depth}
use Rattle.cue_table.specs.Form.{IsRowKept, IsTree}
use Rattle.cue_table.specs.Inner.Drafts.{IsClosedInto}
use Rattle.cue_table.specs.Slots.{rows_of}
use Rattle.cue_table.specs.Inner.Opened.{close_trees}
use Rattle.cue_table.proofs.Beyond.{unfinished}
use Rattle.cue_table.proofs.RefusedDrafts.{not_refused, same_rows, was_refused}
use Rattle.cue_table.proofs.draft.Draft.finish.Goals as goal

pub returns-then-is_refused-clause-none : goal.returns-then-is_refused-clause-none
returns-then-is_refused-clause-none g c =
    let rows = rows_of (close_trees c.self.inside.above.items c.self.inside.last) in
    λ table k e. was_refused c.self.inside.is_refused rows c.if-is_refused.true (rows_of table) (e ∙ sym c.self.view_is)

pub returns-then-not-branch-clause-none : goal.returns-then-not-branch-clause-none
returns-then-not-branch-clause-none g c =
    let P = IsRowKept g.R.Narrow.refuses g.R.Narrow.is_value in
    let above = c.self.inside.above.items in
    let last = c.self.inside.last in
    let not = subst (IsClosedInto P above last 0 c.close.new.above.items c.close.new.last) c.if-not-branch.true c.in_ok-close.ensures in
    let rows = rows_of (close_trees above last) in
    λ table k e. unfinished P above last c.self.invariant not table k (same_rows (rows_of table) rows (e ∙ sym c.self.view_is ∙ not_refused c.self.inside.is_refused rows c.if-is_refused.false))

pub same-last : goal.same-last
same-last g c = refl

pub same-last-2 : goal.same-last-2
same-last-2 g c = refl

pub close-requires-clause-opened : goal.close-requires-clause-opened
close-requires-clause-opened g c = c.self.invariant.opened

pub close-requires-clause-form : goal.close-requires-clause-form
close-requires-clause-form g c = c.self.invariant.form

pub close-requires-clause-taken : goal.close-requires-clause-taken
close-requires-clause-taken g c = ⊎_elim (λ h. inl h.0) (λ t. inr t) c.self.invariant.taken

pub of_root-requires-clause-form : goal.of_root-requires-clause-form
of_root-requires-clause-form g c =
    let P = IsRowKept g.R.Narrow.refuses g.R.Narrow.is_value in
    let above = c.self.inside.above.items in
    let last = c.self.inside.last in
    let closes = subst (IsClosedInto P above last 0 c.close.new.above.items c.close.new.last) c.if-not-branch.false c.in_ok-close.ensures in
    let is = closes.1 in
    subst (IsTree P) (sym is.0) is.1

pub of_root-requires-clause-depth : goal.of_root-requires-clause-depth
of_root-requires-clause-depth g c =
    let P = IsRowKept g.R.Narrow.refuses g.R.Narrow.is_value in
    let above = c.self.inside.above.items in
    let last = c.self.inside.last in
    let closes = subst (IsClosedInto P above last 0 c.close.new.above.items c.close.new.last) c.if-not-branch.false c.in_ok-close.ensures in
    let is = closes.1 in
    subst (λ t. tree_depth t ≤ step_limit) (sym is.0) c.self.invariant.depth

pub returns-clause-form : goal.returns-clause-form
returns-clause-form g c =
    let P = IsRowKept g.R.Narrow.refuses g.R.Narrow.is_value in
    let above = c.self.inside.above.items in
    let last = c.self.inside.last in
    let closes = subst (IsClosedInto P above last 0 c.close.new.above.items c.close.new.last) c.if-not-branch.false c.in_ok-close.ensures in
    let is = closes.1 in
    subst (IsTree P) (sym is.0 ∙ sym c.of_root.ensures) is.1

pub returns-clause-rows : goal.returns-clause-rows
returns-clause-rows g c =
    let P = IsRowKept g.R.Narrow.refuses g.R.Narrow.is_value in
    let above = c.self.inside.above.items in
    let last = c.self.inside.last in
    let closes = subst (IsClosedInto P above last 0 c.close.new.above.items c.close.new.last) c.if-not-branch.false c.in_ok-close.ensures in
    let is = closes.1 in
    ap (λ t. Some (rows_of t)) (c.of_root.ensures ∙ is.0) ∙ sym (not_refused c.self.inside.is_refused (rows_of (close_trees above last)) c.if-is_refused.false) ∙ c.self.view_is
