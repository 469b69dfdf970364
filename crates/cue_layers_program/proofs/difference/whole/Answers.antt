use Rattle.cue_layers_program.proofs.Lines.{whole_more}
use Rattle.cue_layers_program.proofs.difference.whole.Goals as goal

pub loop-line-preserved : goal.loop-line-preserved
loop-line-preserved c =
    whole_more c.args.lines.now c.loop-line.line-index _ c.loop-line.bytes.items c.extend_from_slice.new.self.items c.loop-line-test.true
    c.in_ok-extend_from_slice.ensures.items c.loop-line.invariant
