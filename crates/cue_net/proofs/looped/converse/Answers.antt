use Rattle.std.proofs.Common.{◌∙◌, sym, arith, flat_map, ⊎_elim}
use Rattle.std.proofs.lemmas.Bool.{false≢true}
use Rattle.std.proofs.lemmas.List.Elements.{All-nil}
use Rattle.cue_wire.specs.Clients.{request_frame, IsSendable}
use Rattle.cue_wire.specs.Connections.{moment_of}
use Rattle.cue_net.specs.Loops.{BothEnds}
use Rattle.cue_net.proofs.Exchanging.{ex_then, ex_part, ex_is}
use Rattle.cue_net.proofs.Pushes.{asks_both, question}
use Rattle.cue_net.proofs.Rounds.{long_between, none_between, cut_between, between_on, answered_between}
use Rattle.cue_net.proofs.looped.converse.Goals as goal

pub returns-then-not-all_fit-clause-answer : goal.returns-then-not-all_fit-clause-answer
returns-then-not-all_fit-clause-answer g c =
    let source = g.S.Source in
    let sink = g.K.Sink in
    let at = moment_of source.given source.to_come sink.taken source.called sink.called source.failed sink.failed in
    let near = c.args.near.now in
    let far = c.args.far.now in
    let before : BothEnds = record { near = at near.source near.sink; far = at far.source far.sink } in
    long_between c.args.inputs.now before c.args.turns (λ all. absurd (false≢true (sym c.if-not-all_fit.true ∙ c.all_fit.ensures.1 all)))

pub returns-in_err-hearing-clause-answer : goal.returns-in_err-hearing-clause-answer
returns-in_err-hearing-clause-answer g c =
    let source = g.S.Source in
    let sink = g.K.Sink in
    let at = moment_of source.given source.to_come sink.taken source.called sink.called source.failed sink.failed in
    let near = c.args.near.now in
    let far = c.args.far.now in
    let before : BothEnds = record { near = at near.source near.sink; far = at far.source far.sink } in
    between_on c.from_residual.result c.in_err-hearing.field-0.0 c.args.inputs.now before before c.args.turns c.from_residual.ensures.1
    (none_between c.in_err-hearing.field-0.0 c.args.inputs.now before c.args.turns
    (⊎_elim (λ memory. memory) (λ long. absurd (long.1 (All-nil IsSendable))) c.in_err-hearing.ensures.err))

pub returns-in_err-serving-clause-answer : goal.returns-in_err-serving-clause-answer
returns-in_err-serving-clause-answer g c =
    let source = g.S.Source in
    let sink = g.K.Sink in
    let at = moment_of source.given source.to_come sink.taken source.called sink.called source.failed sink.failed in
    let near = c.args.near.now in
    let far = c.args.far.now in
    let before : BothEnds = record { near = at near.source near.sink; far = at far.source far.sink } in
    between_on c.from_residual-in_err-serving.result c.in_err-serving.field-0.0 c.args.inputs.now before before c.args.turns c.from_residual-in_err-serving.ensures.1
    (none_between c.in_err-serving.field-0.0 c.args.inputs.now before c.args.turns c.in_err-serving.ensures.err)

pub returns-in_err-exchange-clause-answer : goal.returns-in_err-exchange-clause-answer
returns-in_err-exchange-clause-answer g c =
    let source = g.S.Source in
    let sink = g.K.Sink in
    let at = moment_of source.given source.to_come sink.taken source.called sink.called source.failed sink.failed in
    let near = c.args.near.now in
    let far = c.args.far.now in
    let before : BothEnds = record { near = at near.source near.sink; far = at far.source far.sink } in
    let new = c.exchange.new in
    let after : BothEnds = record { near = at new.near.source new.near.sink; far = at new.far.source new.far.sink } in
    let site = c.in_ok-serving.serving in
    between_on c.from_residual-in_err-exchange.result c.in_err-exchange.field-0.0 c.args.inputs.now before after c.args.turns c.from_residual-in_err-exchange.ensures.1
    (cut_between c.in_err-exchange.field-0.0 c.args.inputs.now c.in_ok-hearing.hearing new.hearing site.session new.serving.session site.site new.serving.site
    before after c.args.turns new.left c.in_ok-hearing.ensures.taken c.in_ok-serving.ensures.session (λ none. omega (arith, none, c.in_err-exchange.ensures.turns))
    (ex_is (sym (asks_both c.args.inputs.now)) (ex_part (flat_map request_frame question) c.in_err-exchange.ensures.exchanged)))

pub returns-in_err-exchange-2-clause-answer : goal.returns-in_err-exchange-2-clause-answer
returns-in_err-exchange-2-clause-answer g c =
    let source = g.S.Source in
    let sink = g.K.Sink in
    let at = moment_of source.given source.to_come sink.taken source.called sink.called source.failed sink.failed in
    let near = c.args.near.now in
    let far = c.args.far.now in
    let before : BothEnds = record { near = at near.source near.sink; far = at far.source far.sink } in
    let new = c.exchange-2.new in
    let after : BothEnds = record { near = at new.near.source new.near.sink; far = at new.far.source new.far.sink } in
    let site = c.in_ok-serving.serving in
    between_on c.from_residual-in_err-exchange-2.result c.in_err-exchange-2.field-0.0 c.args.inputs.now before after c.args.turns c.from_residual-in_err-exchange-2.ensures.1
    (cut_between c.in_err-exchange-2.field-0.0 c.args.inputs.now c.in_ok-hearing.hearing new.hearing site.session new.serving.session site.site new.serving.site
    before after c.args.turns new.left c.in_ok-hearing.ensures.taken c.in_ok-serving.ensures.session
    (λ none. omega (arith, none, c.in_ok-exchange.ensures.turns, c.in_err-exchange-2.ensures.turns))
    (ex_is (sym (asks_both c.args.inputs.now)) (ex_then c.in_ok-exchange.ensures.sound c.in_ok-exchange.ensures.exchanged c.in_err-exchange-2.ensures.exchanged)))

pub returns-clause-answer : goal.returns-clause-answer
returns-clause-answer g c =
    let source = g.S.Source in
    let sink = g.K.Sink in
    let at = moment_of source.given source.to_come sink.taken source.called sink.called source.failed sink.failed in
    let near = c.args.near.now in
    let far = c.args.far.now in
    let before : BothEnds = record { near = at near.source near.sink; far = at far.source far.sink } in
    let new = c.exchange-2.new in
    let after : BothEnds = record { near = at new.near.source new.near.sink; far = at new.far.source new.far.sink } in
    let site = c.in_ok-serving.serving in
    answered_between tt c.answer_of_replies.result c.args.inputs.now c.in_ok-hearing.hearing new.hearing site.session new.serving.session site.site new.serving.site c.replies.result.now
    before after c.args.turns new.left
    (c.all_fit.ensures.0 c.if-not-all_fit.false) c.in_ok-hearing.ensures.taken c.in_ok-serving.ensures.session c.in_ok-serving.ensures.site
    (ex_is (sym (asks_both c.args.inputs.now)) (ex_then c.in_ok-exchange.ensures.sound c.in_ok-exchange.ensures.exchanged c.in_ok-exchange-2.ensures.exchanged))
    c.replies.ensures c.answer_of_replies.ensures
