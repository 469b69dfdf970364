use Rattle.std.proofs.Common.{◌∙◌, sym, arith}
use Rattle.std.specs.Vec.Iter.{into_iter_items}
use Rattle.cue_table.specs.Form.{IsRowKept}
use Rattle.cue_table.proofs.Stretches.{falls_past, falls_gap, falls_run, falls_form, falls_all}
use Rattle.cue_table.proofs.elements.runs_before.Goals as goal

pub loop-start-preserved-in-Continue-1 : goal.loop-start-preserved-in-Continue-1
loop-start-preserved-in-Continue-1 g c =
    falls_run (IsRowKept g.R.Narrow.refuses g.R.Narrow.is_value) c.args.from (into_iter_items c.args.stretches) (into_iter_items c.loop-start.stretches) (into_iter_items c.next.new.self) c.loop-start.runs.items c.push.new.self.items c.loop-start.end c.in-Some.start c.in-Some.table c.in-Some-run_of.run'
    c.in-Some.ensures.items c.if-start-end.true c.in-Some-run_of.ensures.some c.in_ok-push.ensures.items c.loop-start.invariant

pub loop-start-preserved-in_default-run_of : goal.loop-start-preserved-in_default-run_of
loop-start-preserved-in_default-run_of g c =
    falls_gap (IsRowKept g.R.Narrow.refuses g.R.Narrow.is_value) c.args.from (into_iter_items c.args.stretches) (into_iter_items c.loop-start.stretches) (into_iter_items c.next.new.self) c.loop-start.runs.items c.loop-start.end c.in-Some.start c.in-Some.table
    c.in-Some.ensures.items c.if-start-end.true c.in_default-run_of.ensures.none c.loop-start.invariant

pub loop-start-smaller-else-start-end : goal.loop-start-smaller-else-start-end
loop-start-smaller-else-start-end g c = omega (arith, c.in-Some.ensures.len)

pub loop-start-preserved-else-start-end : goal.loop-start-preserved-else-start-end
loop-start-preserved-else-start-end g c =
    falls_past (IsRowKept g.R.Narrow.refuses g.R.Narrow.is_value) c.args.from (into_iter_items c.args.stretches) (into_iter_items c.loop-start.stretches) (into_iter_items c.next.new.self) c.loop-start.runs.items c.loop-start.end c.in-Some.start c.in-Some.table
    c.in-Some.ensures.items c.if-start-end.false c.loop-start.invariant

pub loop-start-smaller : goal.loop-start-smaller
loop-start-smaller g c = omega (arith, c.in-Some.ensures.len)

pub loop-start-preserved : goal.loop-start-preserved
loop-start-preserved g c =
    falls_past (IsRowKept g.R.Narrow.refuses g.R.Narrow.is_value) c.args.from (into_iter_items c.args.stretches) (into_iter_items c.loop-start.stretches) (into_iter_items c.next.new.self) c.loop-start.runs.items c.loop-start.end c.in-Some.start c.in-Some.table
    c.in-Some.ensures.items c.if-start-end.false c.loop-start.invariant

pub returns-clause-form : goal.returns-clause-form
returns-clause-form g c =
    falls_form (IsRowKept g.R.Narrow.refuses g.R.Narrow.is_value) c.args.from (into_iter_items c.args.stretches) (into_iter_items c.loop-start.stretches) c.loop-start.runs.items c.reverse.new.self.items c.loop-start.end
    c.reverse.ensures.items c.loop-start.invariant

pub returns-clause-same : goal.returns-clause-same
returns-clause-same g c =
    falls_all (IsRowKept g.R.Narrow.refuses g.R.Narrow.is_value) c.args.from (into_iter_items c.args.stretches) (into_iter_items c.loop-start.stretches) c.loop-start.runs.items c.reverse.new.self.items c.loop-start.end
    c.reverse.ensures.items (sym c.loop-start.stretches.rest.ok.0 ∙ c.in_default.ensures.cases.0) c.loop-start.invariant
