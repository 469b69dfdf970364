use Rattle.cue_rounds.specs.Standing.{Changes}
use Rattle.cue_rounds.proofs.event_loop.ask_all.Given as goal

abbrev pub invariant-loop-source : goal.invariant-loop-source
invariant-loop-source g l = Changes g.S.Gathers.pulls_state g.S.Gathers.pulls_pieces g.S.Gathers.pulls_layers g.S.Gathers.rests l.fn.service l.service
