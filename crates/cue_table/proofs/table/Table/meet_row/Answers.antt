use Rattle.std.proofs.Common.{◌≤◌, ◌∙◌, sym, subst}
use Rattle.std.proofs.lemmas.Result.{on_ok_weaker}
use Rattle.cue_lattice.specs.Limits.{step_limit}
use Rattle.cue_table.specs.Form.{IsRowKept, IsTree}
use Rattle.cue_table.specs.Depth.{tree_depth}
use Rattle.cue_table.specs.Tree.{node}
use Rattle.cue_table.specs.Inner.View.{below_in, branches, rest_in}
use Rattle.cue_table.proofs.Hanging.{added_row}
use Rattle.cue_table.proofs.table.Table.meet_row.Goals as goal

pub narrow_row-requires-clause-left : goal.narrow_row-requires-clause-left
narrow_row-requires-clause-left g c = (subst (IsTree (IsRowKept g.R.Narrow.refuses g.R.Narrow.is_value)) (sym c.root.view_is) c.self.invariant.0).0

pub narrow_row-requires-clause-right : goal.narrow_row-requires-clause-right
narrow_row-requires-clause-right g c =
    (c.known.ensures, λ free. let no = c.if-refuses_nothing.ensures.1 free in cc)

pub invariant_of-self-2 : goal.invariant_of-self-2
invariant_of-self-2 g c =
    let P = IsRowKept g.R.Narrow.refuses g.R.Narrow.is_value in
    let tree = node c.root.inside.row (below_in (branches c.root.inside.children.items) c.root.inside.rest) (rest_in c.root.inside.rest) in
    let form : IsTree P tree = subst (IsTree P) (sym c.root.view_is) c.self.invariant.0 in
    let low : tree_depth tree ≤ step_limit = subst (λ t. tree_depth t ≤ step_limit) (sym c.root.view_is) c.self.invariant.1 in
    ((c.narrow_row.ensures.form, form.1, form.2), low)

pub returns-clause-ok : goal.returns-clause-ok
returns-clause-ok g c =
    let r = g.R.Narrow.refuses in
    on_ok_weaker c.narrow_row.result
    (added_row r c.root.inside.row c.narrow_row.new.left c.args.row (below_in (branches c.root.inside.children.items) c.root.inside.rest) (rest_in c.root.inside.rest) c.args.self.now (c.root.view_is ∙ c.self.view_is))
    c.narrow_row.ensures.ok
