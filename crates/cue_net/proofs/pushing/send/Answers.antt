use Rattle.std.proofs.Common.{◌∙◌, arith}
use Rattle.cue_wire.proofs.Connections.{written_more}
use Rattle.cue_net.proofs.pushing.send.Goals as goal

pub loop-rest-preserved : goal.loop-rest-preserved
loop-rest-preserved g c =
    let sink = g.K.Sink in
    let w = c.loop-rest.invariant.written in
    record {
      written = written_more c.args.bytes.now w.0 c.loop-rest.rest.now c.in_ok-count.count c.args.left.now c.write_some.new.left
          (sink.taken c.args.sink.now) (sink.taken c.loop-rest.sink) (sink.taken c.write_some.new.sink) w.1 w.2 c.in_ok-count.ensures.takes
          (c.in_ok-count.ensures.some (grind (arith, c.is_empty.ensures, c.loop-rest-test.true))) c.in_ok-count.ensures.bound (omega (arith, w.3, c.in_ok-count.ensures.turn));
      turns = omega (arith, c.loop-rest.invariant.turns, c.in_ok-count.ensures.turns);
      fewer = omega (arith, c.loop-rest.invariant.fewer, c.in_ok-count.ensures.fewer);
      sound = c.in_ok-count.ensures.sound ∙ c.loop-rest.invariant.sound;
    }
