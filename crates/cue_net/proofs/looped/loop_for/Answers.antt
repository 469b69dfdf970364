use Rattle.std.proofs.Common.{◌∙◌, inl, inr, refl, sym}
use Rattle.std.proofs.lemmas.Bool.{false≢true}
use Rattle.cue_wire.specs.Connections.{moment_of}
use Rattle.cue_net.proofs.Calls.{of_long, of_both}
use Rattle.cue_net.proofs.looped.loop_for.Goals as goal

pub returns-then-not-all_fit-clause-looped : goal.returns-then-not-all_fit-clause-looped
returns-then-not-all_fit-clause-looped g c =
    inl (inl (refl, λ all. absurd (false≢true (sym c.if-not-all_fit.true ∙ c.all_fit.ensures.1 all))))

pub returns-then-not-all_fit-clause-answer : goal.returns-then-not-all_fit-clause-answer
returns-then-not-all_fit-clause-answer g c =
    of_long c.args.inputs.now (λ all. absurd (false≢true (sym c.if-not-all_fit.true ∙ c.all_fit.ensures.1 all)))

pub returns-clause-looped : goal.returns-clause-looped
returns-clause-looped g c =
    let near = c.in_ok-near.near in
    let far = c.in_ok-near.far in
    let left = c.converse.new in
    inr (
      c.all_fit.ensures.0 c.if-not-all_fit.false,
      (
        near.source,
        left.near.source,
        far.source,
        left.far.source,
        near.sink,
        left.near.sink,
        far.sink,
        left.far.sink,
        c.in_ok-near.ensures.joined,
        c.converse.ensures.answer,
      ),
    )

pub returns-clause-answer : goal.returns-clause-answer
returns-clause-answer g c =
    let source = g.H.Input.Source in
    let sink = g.H.Output.Sink in
    let at = moment_of source.given source.to_come sink.taken source.called sink.called source.failed sink.failed in
    let near = c.in_ok-near.near in
    let far = c.in_ok-near.far in
    let left = c.converse.new in
    let answer = c.converse.ensures.answer in
    of_both c.args.inputs.now c.converse.result answer.0 answer.1 100000 (record { near = at near.source near.sink; far = at far.source far.sink })
    (record { near = at left.near.source left.near.sink; far = at left.far.source left.far.sink }) answer.4
