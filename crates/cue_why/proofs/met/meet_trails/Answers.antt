use Rattle.std.proofs.Common.{arith}
use Rattle.cue_why.proofs.Mets.{met_more, met_all}
use Rattle.cue_why.proofs.met.meet_trails.Goals as goal

pub loop-i-preserved : goal.loop-i-preserved
loop-i-preserved c =
    met_more c.args.one.now c.args.other.now c.loop-i.rows.items c.push.new.self.items c.loop-i.i c.index-one-i.result c.index-other-i.result c.in_ok-meet.field-0 (omega arith) c.index-one-i.is (omega arith) c.index-other-i.is
    c.in_ok-meet.ensures c.in_ok-push.ensures.items c.loop-i.invariant

pub returns : goal.returns
returns c = met_all c.args.one.now c.args.other.now c.loop-i.rows.items c.loop-i.i (omega (arith, c.loop-i-test.false)) c.loop-i.invariant
