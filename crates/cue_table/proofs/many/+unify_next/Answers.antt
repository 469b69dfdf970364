use Rattle.std.proofs.Common.{◌≤◌, ◌/◌, sym, ◌∙◌, arith}
use Rattle.std.specs.Vec.Iter.{into_iter_items}
use Rattle.cue_table.proofs.ByHalves.{unified_none, unified_end, unified_more}
use Rattle.cue_table.proofs.many.+unify_next.Goals as goal

pub returns-then-count-eq0-clause-refused : goal.returns-then-count-eq0-clause-refused
returns-then-count-eq0-clause-refused g t c = rw (c.if-count-eq0.true, c.new.ensures) (unified_none g.R.Narrow.refuses)

pub returns-in-None-clause-refused : goal.returns-in-None-clause-refused
returns-in-None-clause-refused g t c =
    rw (c.new-in-None.ensures, c.if-count-eq1.true) (unified_end g.R.Narrow.refuses (into_iter_items c.args.rest.now) (sym c.args.rest.now.rest.ok.0 ∙ c.in-None.ensures.cases.0))

pub returns-clause-refused : goal.returns-clause-refused
returns-clause-refused g t c =
    let few : c.args.count / 2 ≤ c.args.count = omega arith in
    unified_more g.R.Narrow.refuses (into_iter_items c.args.rest.now) (into_iter_items c.unify_next.new.rest) (c.args.count / 2) c.args.count c.in_ok-met.met c.in_ok-unify_next.field-0 c.meet_with.new.self few
    c.in_ok-met.ensures.rest c.in_ok-met.ensures.refused c.in_ok-unify_next.ensures.refused c.in_ok-meet_with.ensures.ok
