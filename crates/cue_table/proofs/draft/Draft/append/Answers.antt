use Rattle.std.proofs.Common.{None, refl, subst}
use Rattle.cue_table.specs.Form.{IsRowKept}
use Rattle.cue_table.specs.Inner.Drafts.{IsExtendedBy}
use Rattle.cue_table.specs.Inner.Opened.{close_trees}
use Rattle.cue_table.specs.Slots.{rows_of}
use Rattle.cue_table.proofs.Drafting.{none_drafted}
use Rattle.cue_table.proofs.RefusedDrafts.{draft_goes_on, draft_is_refused, draft_stays_refused}
use Rattle.cue_table.proofs.draft.Draft.append.Goals as goal

pub returns-then-self-clause-appends : goal.returns-then-self-clause-appends
returns-then-self-clause-appends g c =
    let i = c.self.inside in
    draft_stays_refused g.R.Narrow.refuses g.R.Narrow.is_value i.is_refused (rows_of (close_trees i.above.items i.last)) c.args.self.now c.args.place.now c.args.row c.self.view_is c.if-self.true

pub go_on-requires : goal.go_on-requires
go_on-requires g c = c.self.invariant

pub invariant_of-self : goal.invariant_of-self
invariant_of-self g c =
    let P = IsRowKept g.R.Narrow.refuses g.R.Narrow.is_value in
    (subst (IsExtendedBy P c.self.inside.above.items c.self.inside.last c.args.place.now c.args.row c.go_on.new.above.items c.go_on.new.last) c.in-Ok-true.field-0-test c.in-Ok-true.ensures).0

pub returns-in-Ok-true-clause-appends : goal.returns-in-Ok-true-clause-appends
returns-in-Ok-true-clause-appends g c =
    let P = IsRowKept g.R.Narrow.refuses g.R.Narrow.is_value in
    let i = c.self.inside in
    draft_goes_on g.R.Narrow.refuses g.R.Narrow.is_value i.is_refused (rows_of (close_trees i.above.items i.last)) c.args.self.now c.args.place.now c.args.row c.self.view_is (rows_of (close_trees c.go_on.new.above.items c.go_on.new.last)) c.if-self.false
    (subst (IsExtendedBy P i.above.items i.last c.args.place.now c.args.row c.go_on.new.above.items c.go_on.new.last) c.in-Ok-true.field-0-test c.in-Ok-true.ensures).1

pub invariant_of-self-in-Ok-false : goal.invariant_of-self-in-Ok-false
invariant_of-self-in-Ok-false g c =
    let P = IsRowKept g.R.Narrow.refuses g.R.Narrow.is_value in
    (none_drafted P c.let_go.new.above.items c.let_go.new.last c.let_go.ensures.above c.let_go.ensures.last).0

pub returns-in-Ok-false-clause-appends : goal.returns-in-Ok-false-clause-appends
returns-in-Ok-false-clause-appends g c =
    let P = IsRowKept g.R.Narrow.refuses g.R.Narrow.is_value in
    let i = c.self.inside in
    draft_is_refused g.R.Narrow.refuses g.R.Narrow.is_value i.is_refused (rows_of (close_trees i.above.items i.last)) c.args.self.now c.args.place.now c.args.row c.self.view_is None c.if-self.false refl
    (subst (IsExtendedBy P i.above.items i.last c.args.place.now c.args.row c.go_on.new.above.items c.go_on.new.last) c.in-Ok-false.field-0-test c.in-Ok-false.ensures)

pub invariant_of-self-in-Err : goal.invariant_of-self-in-Err
invariant_of-self-in-Err g c =
    let P = IsRowKept g.R.Narrow.refuses g.R.Narrow.is_value in
    (none_drafted P c.let_go-in-Err.new.above.items c.let_go-in-Err.new.last c.let_go-in-Err.ensures.above c.let_go-in-Err.ensures.last).0
