use Rattle.std.proofs.Common.{◌≡◌, ◌≤◌, ◌^◌, None, refl, ap, arith}
use Rattle.cue_lattice.specs.Limits.{step_limit}
use Rattle.cue_table.specs.Depth.{tree_depth}
use Rattle.cue_table.specs.Form.{IsRowKept}
use Rattle.cue_table.specs.Inner.Rests.{tree_along}
use Rattle.cue_table.specs.Tree.{node, none, onward, if_not_empty}
use Rattle.cue_table.proofs.ByHalves.{is_there}
use Rattle.cue_table.proofs.Hanging.{is_absent}
use Rattle.cue_table.proofs.Resting.{alone_form, along_depth, along_form, nothing_added, rest_added_ok, taken_form}
use Rattle.cue_table.proofs.table.Table.add_rest.Goals as goal

pub returns-then-is_none-clause-ok : goal.returns-then-is_none-clause-ok
returns-then-is_none-clause-ok g c =
    nothing_added g.R.Narrow.refuses c.args.self.now c.args.self.now c.args.path.now c.args.from c.rest.inside.root c.args.rest.now refl c.rest.view_is
    (is_absent (λ node. node.now) c.non_empty.result (if_not_empty c.rest.inside.root) c.is_none.result c.if-is_none.true c.is_none.ensures c.non_empty.ensures)

pub invariant_of-meet_with : goal.invariant_of-meet_with
invariant_of-meet_with g c =
    let P = IsRowKept g.R.Narrow.refuses g.R.Narrow.is_value in
    let there = taken_form c.rest.inside.root (is_there (λ node. node.now) c.non_empty.result (if_not_empty c.rest.inside.root) c.is_none.result c.if-is_none.false c.is_none.ensures c.non_empty.ensures) in
    let list = node None none (onward c.args.from c.rest.inside.root) in
    let few : c.args.from ≤ 2 ^ 32 = omega (arith, c.ranges.from.fits) in
    let is : c.in_ok-root.root ≡ tree_along c.args.path.now list = rw (c.in_ok-root.ensures, c.in_ok-list.ensures, c.from.ensures, c.in_ok-copy.ensures, c.steps.ensures.list) refl in
    let form = along_form P c.args.path.now list tt (alone_form P c.args.from c.rest.inside.root few there c.rest.invariant.0) in
    let deep = along_depth c.args.path.now list in
    let same = ap tree_depth c.rest.view_is in
    let low : tree_depth (tree_along c.args.path.now list) ≤ step_limit = omega (arith, deep, same, c.requires.depth) in
    rw is (form.1, low)

pub returns-clause-ok : goal.returns-clause-ok
returns-clause-ok g c =
    let is : c.in_ok-root.root ≡ tree_along c.args.path.now (node None none (onward c.args.from c.args.rest.now)) = rw (c.in_ok-root.ensures, c.in_ok-list.ensures, c.from.ensures, c.in_ok-copy.ensures, c.steps.ensures.list, c.rest.view_is) refl in
    rest_added_ok g.R.Narrow.refuses c.meet_with.result c.args.self.now c.meet_with.new.self c.in_ok-root.root c.args.path.now c.args.from c.args.rest.now is c.meet_with.ensures.ok
