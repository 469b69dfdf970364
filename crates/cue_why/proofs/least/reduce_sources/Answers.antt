use Rattle.std.proofs.Common.{[], map, suc, length, sym, ap, ◌∙◌, rules}
use Rattle.std.proofs.lemmas.Bool.{false≢true}
use Rattle.cue_row.specs.Steps.{step_of}
use Rattle.cue_why.specs.Inner.Stacks.{ahead_of}
use Rattle.cue_why.proofs.Demands.{map_length}
use Rattle.cue_why.proofs.Stacks.{goes_start, goes_without, goes_with, goes_end, top_long, met_long, as_met, as_meets}
use Rattle.cue_why.proofs.least.reduce_sources.Goals as goal

pub loop-one-init : goal.loop-one-init
loop-one-init c =
    goes_start c.args.finding (map step_of c.args.path.now) c.args.stack.items c.new-kept.result.items c.in_ok-own.own.items c.requires c.new-kept.ensures.items c.in_ok-own.ensures

pub meet_trails-requires : goal.meet_trails-requires
meet_trails-requires c =
    let long = top_long c.args.finding (map step_of c.args.path.now) (ahead_of [] c.args.stack.items) c.loop-one.kept.items c.loop-one.left.items c.pop.new.self.items c.in-Some.one c.loop-one.own.items c.loop-one.invariant c.in-Some.ensures.items in
    ap length c.deref.ensures.value ∙ long.0 ∙ ap length (sym c.deref-in-Some.ensures.value)

pub is_made_by-requires : goal.is_made_by-requires
is_made_by-requires c =
    let path = map step_of c.args.path.now in
    let long = top_long c.args.finding path (ahead_of [] c.args.stack.items) c.loop-one.kept.items c.loop-one.left.items c.pop.new.self.items c.in-Some.one c.loop-one.own.items c.loop-one.invariant c.in-Some.ensures.items in
    let met = as_met c.deref.result.now c.loop-one.own.items c.deref-in-Some.result.now c.in-Some.one.behind.items c.in_ok-others.others.items c.deref.ensures.value c.deref-in-Some.ensures.value c.in_ok-others.ensures in
    ap length c.deref-in-Some-2.ensures.value ∙ met_long path c.loop-one.kept.items c.loop-one.own.items c.in-Some.one.behind.items c.in_ok-others.others.items c.loop-one.invariant.trail long.0 met ∙ ap suc (map_length step_of c.args.path.now)

pub meet_trails-requires-then-not-is_made_by : goal.meet_trails-requires-then-not-is_made_by
meet_trails-requires-then-not-is_made_by c =
    let long = top_long c.args.finding (map step_of c.args.path.now) (ahead_of [] c.args.stack.items) c.loop-one.kept.items c.loop-one.left.items c.pop.new.self.items c.in-Some.one c.loop-one.own.items c.loop-one.invariant c.in-Some.ensures.items in
    ap length c.deref-then-not-is_made_by.ensures.value ∙ long.1 ∙ ap length (sym c.deref-then-not-is_made_by-2.ensures.value)

pub loop-one-preserved-then-not-is_made_by : goal.loop-one-preserved-then-not-is_made_by
loop-one-preserved-then-not-is_made_by c =
    let path = map step_of c.args.path.now in
    let own = c.loop-one.own.items in
    let met = as_met c.deref.result.now own c.deref-in-Some.result.now c.in-Some.one.behind.items c.in_ok-others.others.items c.deref.ensures.value c.deref-in-Some.ensures.value c.in_ok-others.ensures in
    let joined = as_met c.deref-then-not-is_made_by.result.now own c.deref-then-not-is_made_by-2.result.now c.in-Some.one.trail.items c.in_ok-own-2.own.items c.deref-then-not-is_made_by.ensures.value c.deref-then-not-is_made_by-2.ensures.value
    c.in_ok-own-2.ensures in
    goes_with c.args.finding path (ahead_of [] c.args.stack.items) c.loop-one.kept.items c.push.new.self.items c.loop-one.left.items c.pop.new.self.items c.in-Some.one own c.in_ok-others.others.items c.in_ok-own-2.own.items c.loop-one.invariant
    c.in-Some.ensures.items met
    (λ m. false≢true (sym c.if-not-is_made_by.true ∙ c.is_made_by.ensures.1 (as_meets c.args.finding path c.in_ok-others.others.items c.deref-in-Some-2.result.now (sym c.deref-in-Some-2.ensures.value) m))) joined c.in_ok-push.ensures.items

pub loop-one-preserved-else-not-is_made_by : goal.loop-one-preserved-else-not-is_made_by
loop-one-preserved-else-not-is_made_by c =
    let path = map step_of c.args.path.now in
    let own = c.loop-one.own.items in
    let met = as_met c.deref.result.now own c.deref-in-Some.result.now c.in-Some.one.behind.items c.in_ok-others.others.items c.deref.ensures.value c.deref-in-Some.ensures.value c.in_ok-others.ensures in
    goes_without c.args.finding path (ahead_of [] c.args.stack.items) c.loop-one.kept.items c.loop-one.left.items c.pop.new.self.items c.in-Some.one own c.in_ok-others.others.items c.loop-one.invariant c.in-Some.ensures.items met
    (as_meets c.args.finding path c.deref-in-Some-2.result.now c.in_ok-others.others.items c.deref-in-Some-2.ensures.value (c.is_made_by.ensures.0 c.if-not-is_made_by.false))

pub loop-one-preserved : goal.loop-one-preserved
loop-one-preserved c =
    let path = map step_of c.args.path.now in
    let own = c.loop-one.own.items in
    let met = as_met c.deref.result.now own c.deref-in-Some.result.now c.in-Some.one.behind.items c.in_ok-others.others.items c.deref.ensures.value c.deref-in-Some.ensures.value c.in_ok-others.ensures in
    goes_without c.args.finding path (ahead_of [] c.args.stack.items) c.loop-one.kept.items c.loop-one.left.items c.pop.new.self.items c.in-Some.one own c.in_ok-others.others.items c.loop-one.invariant c.in-Some.ensures.items met
    (as_meets c.args.finding path c.deref-in-Some-2.result.now c.in_ok-others.others.items c.deref-in-Some-2.ensures.value (c.is_made_by.ensures.0 c.if-not-is_made_by.false))

pub returns : goal.returns
returns c = goes_end c.args.finding (map step_of c.args.path.now) (ahead_of [] c.args.stack.items) c.loop-one.kept.items c.loop-one.left.items c.loop-one.own.items c.loop-one.invariant (search rules)
