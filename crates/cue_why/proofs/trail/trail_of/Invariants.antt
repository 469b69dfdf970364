use Rattle.cue_why.proofs.Tracing.{AreAt}
use Rattle.cue_why.proofs.trail.trail_of.Given as goal

abbrev pub invariant-loop-step : goal.invariant-loop-step
invariant-loop-step l = AreAt l.source.kind l.source.table.now l.path l.step-index l.parts.items l.rows.items
