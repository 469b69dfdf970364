use Rattle.cue_program.proofs.Devices.{written_more}
use Rattle.cue_program.proofs.output.Output.write_all.Goals as goal

pub loop-rest-preserved : goal.loop-rest-preserved
loop-rest-preserved g c =
    let contents = g.W.Write.contents in
    written_more c.args.bytes.now c.loop-rest.rest.now c.in_ok-count.count (contents c.args.self.now.inner) (contents c.loop-rest.self.inner)
    (contents c.write.new.self.inner) c.loop-rest.invariant c.in_ok-count.ensures.taken c.in_ok-count.ensures.bound.1
