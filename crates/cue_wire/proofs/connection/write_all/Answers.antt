use Rattle.std.proofs.Common.{◌∙◌, ◌-◌, arith}
use Rattle.cue_wire.proofs.Connections.{written_more, some_bytes}
use Rattle.cue_wire.proofs.connection.write_all.Goals as goal

pub loop-rest-preserved : goal.loop-rest-preserved
loop-rest-preserved g c =
    let sink = g.K.Sink in
    let w = c.loop-rest.invariant.written in
    record {
      written = written_more c.args.bytes.now w.0 c.loop-rest.rest.now c.in-Ok.count c.args.left.now (c.loop-rest.left - 1)
          (sink.taken c.args.sink.now) (sink.taken c.loop-rest.sink) (sink.taken c.write.new.self) w.1 w.2 c.in-Ok.ensures.takes
          (some_bytes c.loop-rest.rest.now c.in-Ok.count (grind (arith, c.is_empty.ensures, c.loop-rest-test.true)) c.in-Ok.ensures.some) c.in-Ok.ensures.bound (omega (arith, w.3, c.if-left-eq0.false));
      turns = omega (arith, c.loop-rest.invariant.turns, c.in-Ok.ensures.counts.0, c.if-left-eq0.false);
      fewer = omega (arith, c.loop-rest.invariant.fewer);
      sound = c.in-Ok.ensures.counts.1 ∙ c.loop-rest.invariant.sound;
    }
