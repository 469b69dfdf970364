use Rattle.std.proofs.Common.{◌∙◌, ap, drop}
use Rattle.cue_report.specs.Stream.{flow_of}
use Rattle.cue_report.proofs.Flows.{drained, drain_begun}
use Rattle.cue_report.proofs.Writing.{on_any}
use Rattle.cue_report.proofs.stream.Stream.drain.Goals as goal

pub returns-in_err-put-clause-begun : goal.returns-in_err-put-clause-begun
returns-in_err-put-clause-begun g c =
    on_any _ (drain_begun (flow_of (g.S.TextSink.taken c.args.out.now) c.args.self.now) (g.S.TextSink.taken c.put.new.self) c.range_from.result.now (c.range_from.ensures.value ∙ ap (drop c.in_ok-text.skipped) c.as_str.ensures.value ∙ c.in_ok-text.ensures.text) c.in_err-put.ensures.begun)

pub returns-clause-told : goal.returns-clause-told
returns-clause-told g c =
    drained (flow_of (g.S.TextSink.taken c.args.out.now) c.args.self.now) (flow_of (g.S.TextSink.taken c.put.new.self) c.take.new.self) c.range_from.result.now (c.range_from.ensures.value ∙ ap (drop c.in_ok-text.skipped) c.as_str.ensures.value ∙ c.in_ok-text.ensures.text) c.in_ok-put.ensures.told
    c.in_ok-text.ensures.none c.take.ensures.owes
