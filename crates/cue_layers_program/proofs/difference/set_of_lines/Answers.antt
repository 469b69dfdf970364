use Rattle.cue_layers_program.proofs.Lines.{has_more}
use Rattle.cue_layers_program.proofs.difference.set_of_lines.Goals as goal

pub loop-line-preserved : goal.loop-line-preserved
loop-line-preserved c =
    has_more c.loop-line.yielded c.in-Some.line c.loop-line.known c.insert.new.self c.in_ok-insert.ensures.updates c.loop-line.invariant
