use Rattle.cue_wire.proofs.Streams.{served_none, served_more}
use Rattle.cue_wire.proofs.session.serve_frames.Goals as goal

pub loop-body-init : goal.loop-body-init
loop-body-init c = record { served = served_none c.args.unread.now.items c.args.site.now c.args.out.now.items }

pub loop-body-preserved : goal.loop-body-preserved
loop-body-preserved c =
    let whole = rw c.in-Some.is at c.in_ok-body.ensures.whole in
    record {
      served = served_more c.args.unread.now.items c.loop-body.unread.items c.in-Some.body.items c.next_frame.new.stream.items
          c.args.site.now c.loop-body.site c.answer.new.site c.args.out.now.items c.loop-body.out.items c.answer.new.out.items
          c.loop-body.invariant.served whole.1 whole.0 (rw c.as_slice.ensures at c.in_ok-answer.ensures.ok);
    }
