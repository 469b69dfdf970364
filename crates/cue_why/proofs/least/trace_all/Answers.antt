use Rattle.std.proofs.Common.{[], ◌∷◌, map, length, refl, sym, ap, ◌∙◌}
use Rattle.cue_row.specs.Steps.{step_of}
use Rattle.cue_why.specs.Inner.Stacks.{ahead_of}
use Rattle.cue_why.specs.declared.least.Traced.{Traced}
use Rattle.cue_why.proofs.Stacks.{traced_none, traced_more, as_met, as_long}
use Rattle.cue_why.proofs.least.trace_all.Goals as goal

pub loop-source-init : goal.loop-source-init
loop-source-init c = traced_none (map step_of c.args.path.now) c.args.sources.items c.in_ok-stack.stack.items c.in_ok-behind.behind.items c.in_ok-stack.ensures.items c.in_ok-behind.ensures

pub meet_trails-requires : goal.meet_trails-requires
meet_trails-requires c =
    ap length c.deref.ensures.value
    ∙ as_long (map step_of c.args.path.now) (c.in-Some.source ∷ []) (ahead_of [] c.loop-source.stack.items) c.in_ok-trail.trail.items c.loop-source.behind.items c.in_ok-trail.ensures c.loop-source.invariant.trail
    ∙ ap length (sym c.deref-in-Some.ensures.value)

pub loop-source-preserved : goal.loop-source-preserved
loop-source-preserved c =
    let one : Traced = record { source = c.in-Some.source; trail = c.in_ok-trail.trail; behind = c.loop-source.behind } in
    traced_more (map step_of c.args.path.now) c.args.sources.items c.loop-source.left.items c.pop.new.self.items c.in-Some.source c.loop-source.stack.items c.push.new.self.items one c.loop-source.behind.items c.in_ok-all.all.items
    c.loop-source.invariant c.in-Some.ensures.items refl refl c.in_ok-trail.ensures
    (as_met c.deref.result.now c.in_ok-trail.trail.items c.deref-in-Some.result.now c.loop-source.behind.items c.in_ok-all.all.items c.deref.ensures.value c.deref-in-Some.ensures.value c.in_ok-all.ensures) c.in_ok-push.ensures.items
