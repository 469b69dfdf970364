use Rattle.std.proofs.Common.{◌≡◌, ◌∷◌, ◌∙◌, length, sym, ap, subst, arith}
use Rattle.std.specs.Vec.Iter.{into_iter_items}
use Rattle.cue_table.specs.Form.{IsRowKept}
use Rattle.cue_table.specs.Inner.View.{run_branches}
use Rattle.cue_table.specs.Many.{IsOfElements}
use Rattle.cue_table.proofs.Stretches.{elements_depth, root_given, none_given}
use Rattle.cue_table.proofs.table.Table.of_elements.Goals as goal

pub returns-in_default-clause-refused : goal.returns-in_default-clause-refused
returns-in_default-clause-refused g c =
    none_given g.R.Narrow.refuses c.args.stretches.items c.new.result (ap length (sym c.into_iter-others.ensures.rest) ∙ sym c.into_iter-others.result.rest.ok.0 ∙ c.in_default.ensures.cases.0) c.new.ensures

pub runs_before-requires : goal.runs_before-requires
runs_before-requires g c =
    let all : c.args.stretches.items ≡ (c.in-Some.from, c.in-Some.further) ∷ into_iter_items c.next.new.self = sym c.into_iter-others.ensures.rest ∙ c.in-Some.ensures.items in
    (rw all at c.requires.few) 0 (c.in-Some.from, c.in-Some.further) (omega arith)

pub list_of-requires-clause-few : goal.list_of-requires-clause-few
list_of-requires-clause-few g c =
    let all : c.args.stretches.items ≡ (c.in-Some.from, c.in-Some.further) ∷ into_iter_items c.next.new.self = sym c.into_iter-others.ensures.rest ∙ c.in-Some.ensures.items in
    (rw all at c.requires.few) 0 (c.in-Some.from, c.in-Some.further) (omega arith)

pub of_root-requires-clause-depth : goal.of_root-requires-clause-depth
of_root-requires-clause-depth g c =
    let given =
    root_given g.R.Narrow.refuses (IsRowKept g.R.Narrow.refuses g.R.Narrow.is_value) c.in-Some.from c.in-Some.further c.into_root.result c.in_ok-root.root c.args.stretches.items (into_iter_items c.into_iter-others.result) (into_iter_items c.next.new.self) (run_branches c.in_ok-runs.runs.items)
    c.into_iter-others.ensures.rest c.in-Some.ensures.items c.into_root.ensures.same c.in_ok-runs.ensures.same c.in_ok-root.ensures in
    elements_depth g.R.Narrow.refuses g.R.Narrow.is_value c.args.stretches.items c.in_ok-root.root c.in_ok-root.ensures.form c.requires.depth given

pub returns-clause-refused : goal.returns-clause-refused
returns-clause-refused g c =
    subst (IsOfElements g.R.Narrow.refuses c.args.stretches.items) (sym c.of_root.ensures)
    (root_given g.R.Narrow.refuses (IsRowKept g.R.Narrow.refuses g.R.Narrow.is_value) c.in-Some.from c.in-Some.further c.into_root.result c.in_ok-root.root c.args.stretches.items (into_iter_items c.into_iter-others.result) (into_iter_items c.next.new.self) (run_branches c.in_ok-runs.runs.items)
    c.into_iter-others.ensures.rest c.in-Some.ensures.items c.into_root.ensures.same c.in_ok-runs.ensures.same c.in_ok-root.ensures)
