use Rattle.std.proofs.Common.{◌≡◌, ◌+◌, ◌∙◌, sym, flat_map, ⊎_elim, arith}
use Rattle.cue_wire.specs.Clients.{request_frame}
use Rattle.cue_net.proofs.Asking.{asked_on, asks_none, asks_unsent, asks_all, on_ok}
use Rattle.cue_net.proofs.pushing.ask.Goals as goal

pub returns-in_err-asking-clause-asked : goal.returns-in_err-asking-clause-asked
returns-in_err-asking-clause-asked g c =
    let source = g.S.Source in
    let sink = g.K.Sink in
    asked_on c.from_residual.ensures.1 (asks_none c.in_err-asking.field-0.0 (flat_map request_frame c.args.requests.now) c.args.hearing.now c.args.count (source.given c.args.source.now) (source.to_come c.args.source.now) (sink.taken c.args.sink.now)
    c.args.left.now (source.failed c.args.source.now + sink.failed c.args.sink.now) (⊎_elim (λ memory. memory) (λ long. absurd (long.1 c.requires.fits)) c.in_err-asking.ensures.err))

pub returns-in_err-send-clause-asked : goal.returns-in_err-send-clause-asked
returns-in_err-send-clause-asked g c =
    let source = g.S.Source in
    let sink = g.K.Sink in
    let w = c.in_err-send.ensures.sent in
    asked_on c.from_residual-in_err-send.ensures.1 (asks_unsent c.in_err-send.field-0.0 (flat_map request_frame c.args.requests.now) c.args.hearing.now c.args.count (source.given c.args.source.now) (source.to_come c.args.source.now)
    (sink.taken c.args.sink.now) (sink.taken c.send.new.sink) c.args.left.now c.send.new.left (sink.failed c.args.sink.now) (sink.failed c.send.new.sink)
    (source.failed c.args.source.now + sink.failed c.args.sink.now) (source.failed c.args.source.now + sink.failed c.send.new.sink)
    (λ more. omega (arith, more)) (w.0, w.1, sym (c.outgoing.ensures ∙ c.in_ok-asking.ensures.outgoing) ∙ w.2, w.3, w.5, w.6) c.in_err-send.ensures.halt)

pub returns-clause-asked : goal.returns-clause-asked
returns-clause-asked g c =
    let source = g.S.Source in
    let sink = g.K.Sink in
    let w = c.in_ok-send.ensures.sent in
    let new = c.receive.new.source in
    asks_all c.receive.result (flat_map request_frame c.args.requests.now) c.args.hearing.now c.receive.new.hearing c.args.count
    (source.given c.args.source.now) (source.given new) (source.to_come c.args.source.now) (source.to_come new) (sink.taken c.args.sink.now) (sink.taken c.send.new.sink)
    c.args.left.now c.send.new.left c.receive.new.left (source.failed c.args.source.now) (source.failed new)
    (source.failed c.args.source.now + sink.failed c.args.sink.now) (source.failed new + sink.failed c.send.new.sink)
    (λ more. omega (arith, more, c.in_ok-send.ensures.sound)) (w.0, w.1, sym (c.outgoing.ensures ∙ c.in_ok-asking.ensures.outgoing) ∙ w.2, w.3, w.4, w.6) c.receive.ensures.heard

pub returns-clause-sound : goal.returns-clause-sound
returns-clause-sound g c =
    let source = g.S.Source in
    let sink = g.K.Sink in
    on_ok c.receive.result (source.failed c.receive.new.source ≡ source.failed c.args.source.now)
    (source.failed c.receive.new.source + sink.failed c.send.new.sink ≡ source.failed c.args.source.now + sink.failed c.args.sink.now)
    (λ same. omega (arith, same, c.in_ok-send.ensures.sound)) c.receive.ensures.sound
