use Rattle.std.proofs.Common.{arith}
use Rattle.cue_replica.specs.Language.{empty_site}
use Rattle.cue_wire.specs.Connections.{moment_of}
use Rattle.cue_net.specs.Doors.{ServesOver}
use Rattle.cue_net.proofs.Passages.{none_served, one_more, all_served, starves}
use Rattle.cue_net.proofs.serving.serve_from.Goals as goal

pub loop-served-init : goal.loop-served-init
loop-served-init g c =
    let source = g.H.Input.Source in
    let sink = g.H.Output.Sink in
    record {
      served = none_served (g.H.Network.lets_in c.args.rt.now) (ServesOver (moment_of source.given source.to_come sink.taken source.called sink.called source.failed sink.failed))
          c.args.door.now empty_site c.new-site.result c.new-site.ensures;
    }

pub loop-served-preserved : goal.loop-served-preserved
loop-served-preserved g c =
    let source = g.H.Input.Source in
    let sink = g.H.Output.Sink in
    let end = c.in_ok-end.end in
    let left = c.serve_one.new.end in
    record {
      served = one_more (g.H.Network.lets_in c.args.rt.now) (ServesOver (moment_of source.given source.to_come sink.taken source.called sink.called source.failed sink.failed))
          c.loop-served._served c.args.door.now c.loop-served.door c.accept.new.door empty_site c.loop-served.site c.serve_one.new.site
          end.source left.source end.sink left.sink c.loop-served.invariant.served c.in_ok-end.ensures.let_in c.serve_one.ensures;
    }

pub returns : goal.returns
returns g c =
    let source = g.H.Input.Source in
    let sink = g.H.Output.Sink in
    let s = c.loop-served in (
      s.site,
      all_served (g.H.Network.lets_in c.args.rt.now) (ServesOver (moment_of source.given source.to_come sink.taken source.called sink.called source.failed sink.failed))
          s._served c.args.count c.args.door.now s.door s.site (omega (arith, s.auto._served-end, c.loop-served-test.false)) s.invariant.served,
      c.in_ok-answer.ensures,
    )

pub returns-in_err-answer : goal.returns-in_err-answer
returns-in_err-answer g c =
    let source = g.H.Input.Source in
    let sink = g.H.Output.Sink in
    let s = c.loop-served in
    starves (g.H.Network.lets_in c.args.rt.now) (ServesOver (moment_of source.given source.to_come sink.taken source.called sink.called source.failed sink.failed))
    (g.H.Network.fails c.args.rt.now) c.args.count c.args.door.now s.door s.site c.from_residual-in_err-answer.result c.from_residual-in_err-answer.ensures.1
    (all_served (g.H.Network.lets_in c.args.rt.now) (ServesOver (moment_of source.given source.to_come sink.taken source.called sink.called source.failed sink.failed))
    s._served c.args.count c.args.door.now s.door s.site (omega (arith, s.auto._served-end, c.loop-served-test.false)) s.invariant.served)
