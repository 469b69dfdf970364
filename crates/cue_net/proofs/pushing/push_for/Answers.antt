use Rattle.std.proofs.Common.{◌∙◌, inl, inr, refl, sym}
use Rattle.std.proofs.lemmas.Bool.{false≢true}
use Rattle.cue_wire.specs.Connections.{moment_of}
use Rattle.cue_net.proofs.Calls.{of_long, of_talk}
use Rattle.cue_net.proofs.pushing.push_for.Goals as goal

pub returns-then-not-all_fit-clause-pushed : goal.returns-then-not-all_fit-clause-pushed
returns-then-not-all_fit-clause-pushed g c =
    inl (inl (refl, λ all. absurd (false≢true (sym c.if-not-all_fit.true ∙ c.all_fit.ensures.1 all))))

pub returns-then-not-all_fit-clause-answer : goal.returns-then-not-all_fit-clause-answer
returns-then-not-all_fit-clause-answer g c =
    of_long c.args.inputs.now (λ all. absurd (false≢true (sym c.if-not-all_fit.true ∙ c.all_fit.ensures.1 all)))

pub returns-clause-pushed : goal.returns-clause-pushed
returns-clause-pushed g c =
    let end = c.in_ok-end.end in
    let left = c.push.new in
    inr (c.all_fit.ensures.0 c.if-not-all_fit.false, (end.source, left.source, end.sink, left.sink, c.in_ok-end.ensures.reached, c.push.ensures.answer))

pub returns-clause-answer : goal.returns-clause-answer
returns-clause-answer g c =
    let source = g.H.Input.Source in
    let sink = g.H.Output.Sink in
    let at = moment_of source.given source.to_come sink.taken source.called sink.called source.failed sink.failed in
    let end = c.in_ok-end.end in
    let left = c.push.new in
    let answer = c.push.ensures.answer in
    of_talk c.args.inputs.now c.push.result answer.0 100000 (at end.source end.sink) (at left.source left.sink) answer.2
