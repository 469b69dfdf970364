use Rattle.std.proofs.Common.{◌≡◌, ◌≤◌, [], None, refl, ap, arith}
use Rattle.cue_lattice.specs.Limits.{step_limit}
use Rattle.cue_table.specs.Depth.{tree_depth}
use Rattle.cue_table.specs.Form.{IsRowKept}
use Rattle.cue_table.specs.Tree.{node, none, onward, if_not_empty}
use Rattle.cue_table.proofs.ByHalves.{is_there}
use Rattle.cue_table.proofs.Hanging.{is_absent}
use Rattle.cue_table.proofs.Resting.{alone_form, nothing_added, rest_added_ok, taken_form}
use Rattle.cue_table.proofs.table.Table.meet_rest.Goals as goal

pub same-self : goal.same-self
same-self g c = refl

pub returns-then-is_none-clause-ok : goal.returns-then-is_none-clause-ok
returns-then-is_none-clause-ok g c =
    nothing_added g.R.Narrow.refuses c.args.self.now c.args.self.now [] c.args.from c.rest.inside.root c.args.rest refl c.rest.view_is
    (is_absent (λ node. node.now) c.non_empty.result (if_not_empty c.rest.inside.root) c.is_none.result c.if-is_none.true c.is_none.ensures c.non_empty.ensures)

pub same-node : goal.same-node
same-node g c = refl

pub same-self-in_err-root : goal.same-self-in_err-root
same-self-in_err-root g c = refl

pub same-self-2 : goal.same-self-2
same-self-2 g c = refl

pub invariant_of-meet_with : goal.invariant_of-meet_with
invariant_of-meet_with g c =
    let P = IsRowKept g.R.Narrow.refuses g.R.Narrow.is_value in
    let there = taken_form c.rest.inside.root (is_there (λ node. node.now) c.non_empty.result (if_not_empty c.rest.inside.root) c.is_none.result c.if-is_none.false c.is_none.ensures c.non_empty.ensures) in
    let form = alone_form P c.args.from c.rest.inside.root c.requires.few there c.rest.invariant.0 in
    let same = ap tree_depth c.rest.view_is in
    let low : tree_depth (node None none (onward c.args.from c.rest.inside.root)) ≤ step_limit = omega (arith, same, c.requires.depth) in
    rw c.in_ok-root.ensures (form, low)

pub returns-clause-ok : goal.returns-clause-ok
returns-clause-ok g c =
    let is : c.in_ok-root.root ≡ node None none (onward c.args.from c.args.rest) = rw (c.in_ok-root.ensures, c.rest.view_is) refl in
    rest_added_ok g.R.Narrow.refuses c.meet_with.result c.args.self.now c.meet_with.new.self c.in_ok-root.root [] c.args.from c.args.rest is c.meet_with.ensures.ok
