use Rattle.cue_wire.proofs.Exchanges.{on_ok, gains_more}
use Rattle.cue_wire.proofs.client.read_frames.Goals as goal

pub loop-body-preserved : goal.loop-body-preserved
loop-body-preserved c =
    let s = c.loop-body in
    let whole = rw c.in-Some.is at c.in_ok-body.ensures.whole in
    record {
      gains = gains_more c.args.stream.now s.rest.now c.in-Some.body.now c.in-Some.behind.now c.args.replies.now.items s.replies.items c.push_copy.new.replies.items
          s.invariant.gains whole.0 whole.1
          (on_ok c.push_copy.result c.map_err.result c.in_ok-map_err.field-0 c.map_err.ensures.variant c.in_ok-map_err.was c.push_copy.ensures.ok);
    }
