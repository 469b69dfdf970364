use Rattle.std.proofs.Common.{◌+◌, ◌∙◌, sym, length, arith, Ok, Err}
use Rattle.std.proofs.lemmas.Bool.{false≢true}
use Rattle.cue_wire.specs.Connections.{moment_of, failures}
use Rattle.cue_net.proofs.Pushes.{stops_first, asks_on}
use Rattle.cue_net.proofs.Talks.{cut, cut_on, answered, too_long, no_client}
use Rattle.cue_net.proofs.pushing.push.Goals as goal

pub returns-then-not-all_fit-clause-answer : goal.returns-then-not-all_fit-clause-answer
returns-then-not-all_fit-clause-answer g c =
    let source = g.S.Source in
    let sink = g.K.Sink in
    let at = moment_of source.given source.to_come sink.taken source.called sink.called source.failed sink.failed in
    too_long c.args.inputs.now (at c.args.source.now c.args.sink.now) c.args.turns (λ all. absurd (false≢true (sym c.if-not-all_fit.true ∙ c.all_fit.ensures.1 all)))

pub returns-in_err-hearing-clause-answer : goal.returns-in_err-hearing-clause-answer
returns-in_err-hearing-clause-answer g c =
    let source = g.S.Source in
    let sink = g.K.Sink in
    let at = moment_of source.given source.to_come sink.taken source.called sink.called source.failed sink.failed in
    let before = at c.args.source.now c.args.sink.now in
    cut_on c.from_residual.result c.in_err-hearing.field-0.0 c.args.inputs.now before before c.args.turns c.from_residual.ensures.1
    (no_client c.in_err-hearing.field-0.0 c.args.inputs.now before c.args.turns c.in_err-hearing.ensures.err)

pub returns-in_err-push_inputs-clause-answer : goal.returns-in_err-push_inputs-clause-answer
returns-in_err-push_inputs-clause-answer g c =
    let source = g.S.Source in
    let sink = g.K.Sink in
    let at = moment_of source.given source.to_come sink.taken source.called sink.called source.failed sink.failed in
    let new = c.push_inputs.new in
    let before = at c.args.source.now c.args.sink.now in
    let after = at new.source new.sink in
    cut_on c.from_residual-in_err-push_inputs.result c.in_err-push_inputs.field-0.0 c.args.inputs.now before after c.args.turns c.from_residual-in_err-push_inputs.ensures.1
    (stops_first c.in_err-push_inputs.field-0.0 c.args.inputs.now c.in_ok-hearing.hearing new.hearing before after c.args.turns new.left c.in_ok-hearing.ensures.taken
    (λ none. omega (arith, none, c.in_err-push_inputs.ensures.turns)) c.in_err-push_inputs.ensures.asked)

pub returns-in_err-ask-clause-answer : goal.returns-in_err-ask-clause-answer
returns-in_err-ask-clause-answer g c =
    let source = g.S.Source in
    let sink = g.K.Sink in
    let at = moment_of source.given source.to_come sink.taken source.called sink.called source.failed sink.failed in
    let mid = c.push_inputs.new in
    let new = c.ask.new in
    let before = at c.args.source.now c.args.sink.now in
    let between = at mid.source mid.sink in
    let after = at new.source new.sink in
    cut_on c.from_residual-in_err-ask.result c.in_err-ask.field-0.0 c.args.inputs.now before after c.args.turns c.from_residual-in_err-ask.ensures.1
    (cut c.in_err-ask.field-0.0 c.args.inputs.now c.in_ok-hearing.hearing new.hearing (length c.args.inputs.now + 1) before after c.args.turns new.left
    c.in_ok-hearing.ensures.taken (omega arith) (λ none. omega (arith, none, c.in_ok-push_inputs.ensures.turns, c.in_err-ask.ensures.turns))
    (asks_on tt (Err c.in_err-ask.field-0.0) c.args.inputs.now c.in_ok-hearing.hearing mid.hearing new.hearing
    before.given between.given after.given before.to_come between.to_come after.to_come before.taken between.taken after.taken c.args.turns mid.left new.left
    (failures before) (failures between) (failures after) c.in_ok-push_inputs.ensures.sound c.in_ok-push_inputs.ensures.asked c.in_err-ask.ensures.asked))

pub returns-clause-answer : goal.returns-clause-answer
returns-clause-answer g c =
    let source = g.S.Source in
    let sink = g.K.Sink in
    let at = moment_of source.given source.to_come sink.taken source.called sink.called source.failed sink.failed in
    let mid = c.push_inputs.new in
    let new = c.ask.new in
    let before = at c.args.source.now c.args.sink.now in
    let between = at mid.source mid.sink in
    let after = at new.source new.sink in
    answered tt c.answer_of_replies.result c.args.inputs.now c.in_ok-hearing.hearing new.hearing c.replies.result.now before after c.args.turns new.left
    (c.all_fit.ensures.0 c.if-not-all_fit.false) c.in_ok-hearing.ensures.taken
    (asks_on tt (Ok tt) c.args.inputs.now c.in_ok-hearing.hearing mid.hearing new.hearing
    before.given between.given after.given before.to_come between.to_come after.to_come before.taken between.taken after.taken c.args.turns mid.left new.left
    (failures before) (failures between) (failures after) c.in_ok-push_inputs.ensures.sound c.in_ok-push_inputs.ensures.asked c.in_ok-ask.ensures.asked)
    c.replies.ensures c.answer_of_replies.ensures
