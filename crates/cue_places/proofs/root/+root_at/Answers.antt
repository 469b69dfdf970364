use Rattle.std.proofs.Common.{◌-◌, length, map, take, drop, sym, ◌∙◌, arith}
use Rattle.cue_row.specs.Steps.{step_of}
use Rattle.cue_places.proofs.Lists.{cut_path}
use Rattle.cue_places.proofs.Roots.{root_none}
use Rattle.cue_places.proofs.root.+root_at.Goals as goal

pub returns-in-None : goal.returns-in-None
returns-in-None t c =
    let steps = c.args.steps.now in
    let step = c.step-item.result in
    let rest = take (length steps - 1) (drop 1 steps) in
    root_none c.args.branch.now (map step_of steps) (step_of step) (map step_of rest) c.new.result (cut_path steps step (omega arith) c.step-item.is) (sym c.next_below.ensures.next ∙ c.in-None.is) c.new.ensures
