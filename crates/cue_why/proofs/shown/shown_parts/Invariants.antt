use Rattle.cue_why.proofs.Showing.{AreAt}
use Rattle.cue_why.proofs.shown.shown_parts.Given as goal

abbrev pub invariant-loop-step : goal.invariant-loop-step
invariant-loop-step l = AreAt l.source l.path l.step-index l.parts.items l.shown.items
