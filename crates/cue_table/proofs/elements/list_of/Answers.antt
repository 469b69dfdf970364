use Rattle.std.proofs.Common.{◌∙◌, ap, None}
use Rattle.std.proofs.lemmas.Result.{IfOk-weaker}
use Rattle.cue_table.specs.Form.{IsRowKept}
use Rattle.cue_table.specs.Inner.View.{run_branches}
use Rattle.cue_table.specs.Tree.{node, no_rest, if_not_empty}
use Rattle.cue_table.proofs.ByHalves.{is_there}
use Rattle.cue_table.proofs.Hanging.{is_absent}
use Rattle.cue_table.proofs.Resting.{taken_form}
use Rattle.cue_table.proofs.Stretches.{going_on, ending}
use Rattle.cue_table.proofs.elements.list_of.Goals as goal

pub returns-then-is_none : goal.returns-then-is_none
returns-then-is_none g c =
    let absent = is_absent (λ node. node.now) c.non_empty.result (if_not_empty c.args.further) c.is_none.result c.if-is_none.true c.is_none.ensures c.non_empty.ensures in
    IfOk-weaker c.list_of_runs.result _ _
    (λ list is. ending (IsRowKept g.R.Narrow.refuses g.R.Narrow.is_value) c.args.from (run_branches c.args.runs.items) (if_not_empty c.args.further) list absent c.requires.elements (is ∙ ap (λ rs. node None (run_branches rs) no_rest) c.deref.ensures.value))
    c.list_of_runs.ensures

pub settle_rest-requires-clause-taken : goal.settle_rest-requires-clause-taken
settle_rest-requires-clause-taken g c =
    taken_form c.args.further (is_there (λ node. node.now) c.non_empty.result (if_not_empty c.args.further) c.is_none.result c.if-is_none.false c.is_none.ensures c.non_empty.ensures)

pub returns : goal.returns
returns g c =
    let there = taken_form c.args.further (is_there (λ node. node.now) c.non_empty.result (if_not_empty c.args.further) c.is_none.result c.if-is_none.false c.is_none.ensures c.non_empty.ensures) in
    IfOk-weaker c.list_with_rest.result _ _
    (λ list is. going_on (IsRowKept g.R.Narrow.refuses g.R.Narrow.is_value) c.args.from (run_branches c.args.runs.items) c.args.further list c.settle_rest.result there c.settle_rest.ensures is) c.list_with_rest.ensures
