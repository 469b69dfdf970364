use Rattle.cue_row.specs.Steps.{step_of}
use Rattle.cue_table.proofs.Nearing.{before_length, gap_behind, place_behind, rise_drop}
use Rattle.cue_table.proofs.near.place_from.Goals as goal

pub split_at-requires : goal.split_at-requires
split_at-requires g c = before_length c.args.past c.args.children.now (step_of c.args.step.now) c.requires.past

pub place_near-requires : goal.place_near-requires
place_near-requires g c = rw c.split_at.ensures.back (rise_drop c.args.past c.args.children.now c.requires.rise)

pub returns-in-Ok : goal.returns-in-Ok
returns-in-Ok g c = place_behind c.args.past c.args.children.now (step_of c.args.step.now) c.in-Ok.at c.requires.past (rw c.split_at.ensures.back at c.in-Ok.ensures)

pub returns-in-Err : goal.returns-in-Err
returns-in-Err g c = gap_behind c.args.past c.args.children.now (step_of c.args.step.now) c.in-Err.at c.requires.past (rw c.split_at.ensures.back at c.in-Err.ensures)
