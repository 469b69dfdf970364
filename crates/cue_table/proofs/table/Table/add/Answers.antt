use Rattle.std.proofs.Common.{◌≡◌, ◌≤◌, map, refl, arith}
use Rattle.cue_lattice.specs.Limits.{step_limit}
use Rattle.cue_row.specs.Steps.{step_of}
use Rattle.cue_table.specs.Form.{IsRowKept, IsTable}
use Rattle.cue_table.specs.Inner.Meet.{chain}
use Rattle.cue_table.specs.Depth.{tree_depth}
use Rattle.cue_table.proofs.Depth.{chain_depth}
use Rattle.cue_table.proofs.Adding.{chain_form, added_ok}
use Rattle.cue_table.proofs.table.Table.add.Goals as goal

pub invariant_of-meet_with : goal.invariant_of-meet_with
invariant_of-meet_with g c =
    let P = IsRowKept g.R.Narrow.refuses g.R.Narrow.is_value in
    let kept : IsRowKept g.R.Narrow.refuses g.R.Narrow.is_value c.args.row.now = (c.known.ensures, λ free. let no = c.if-is_free.ensures.1 free in cc) in
    let deep = chain_depth c.args.path.now c.args.row.now in
    let form : IsTable g.R.Narrow.refuses g.R.Narrow.is_value c.in_ok-root.root = rw (c.in_ok-root.ensures, c.of_row-lone.ensures, c.in_ok-copy.ensures) (chain_form P (map step_of c.steps.result.now) c.args.row.now kept) in
    let few : tree_depth c.in_ok-root.root ≤ step_limit = rw (c.in_ok-root.ensures, c.of_row-lone.ensures, c.in_ok-copy.ensures, c.steps.ensures.list) (omega (arith, deep, c.steps.ensures.few)) in
    (form, few)

pub returns-clause-ok : goal.returns-clause-ok
returns-clause-ok g c =
    let one : c.in_ok-root.root ≡ chain c.args.path.now c.args.row.now = rw (c.in_ok-root.ensures, c.of_row-lone.ensures, c.in_ok-copy.ensures, c.steps.ensures.list) refl in
    added_ok g.R.Narrow.refuses c.meet_with.result c.args.self.now c.meet_with.new.self c.in_ok-root.root c.args.path.now c.args.row.now one c.meet_with.ensures.ok
