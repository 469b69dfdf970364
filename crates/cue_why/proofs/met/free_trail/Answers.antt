use Rattle.std.proofs.Common.{◌≡◌, ◌+◌, suc, length, map, sym, rules}
use Rattle.cue_row.specs.Steps.{step_of}
use Rattle.cue_why.proofs.Demands.{map_length}
use Rattle.cue_why.proofs.Mets.{free_one, free_more, free_trail}
use Rattle.cue_why.proofs.met.free_trail.Goals as goal

pub loop-step-init : goal.loop-step-init
loop-step-init c =
    let one = free_one c.new-rows.result.items c.push.new.self.items c.in_ok-free.field-0 c.new-rows.ensures.items c.in_ok-push.ensures.items c.in_ok-free.ensures in
    record { long = one.0; free = one.1 }

pub loop-step-preserved : goal.loop-step-preserved
loop-step-preserved c =
    let more = free_more c.loop-step.rows.items c.push-in-loop-step.new.self.items c.in_ok-free-2.field-0 (c.loop-step._step-index + 1) c.in_ok-push-2.ensures.items c.in_ok-free-2.ensures c.loop-step.invariant.long c.loop-step.invariant.free in
    record { long = more.0; free = more.1 }

pub returns : goal.returns
returns c =
    let long : length c.loop-step.rows.items ≡ suc (length c.args.path.now) = search rules in
    free_trail c.args.path.now (map step_of c.args.path.now) c.loop-step.rows.items (sym (map_length step_of c.args.path.now)) (record { long = long; free = c.loop-step.invariant.free })
