use Rattle.std.proofs.Common.{◌≡◌, ◌+◌, ◌≤◌, ◌∙◌, [], length, refl, arith}
use Rattle.std.proofs.lemmas.Grind.{common_steps}
use Rattle.std.proofs.lemmas.List.Elements.{All-take}
use Rattle.cue_wire.specs.Clients.{IsSendable}
use Rattle.cue_net.proofs.Asking.{asked_on, asks_nothing}
use Rattle.cue_net.proofs.Pushes.{pushed_more, pushed_part, pushed_all, fits_behind}
use Rattle.cue_net.proofs.pushing.push_inputs.Goals as goal

pub loop-rest-init : goal.loop-rest-init
loop-rest-init g c =
    let source = g.S.Source in
    let sink = g.K.Sink in
    record {
      pushed = record {
        front = [];
        parts = refl;
        counted = refl;
        asks = asks_nothing tt c.args.hearing.now (source.given c.args.source.now) (source.to_come c.args.source.now) (sink.taken c.args.sink.now)
            c.args.left.now (source.failed c.args.source.now + sink.failed c.args.sink.now);
      };
      fits = c.requires.fits;
      turns = refl;
      reads = omega arith;
      writes = omega arith;
      sound = refl;
    }

pub ask-requires-clause-fits : goal.ask-requires-clause-fits
ask-requires-clause-fits g c = All-take IsSendable c.min-most.result c.loop-rest.rest.now c.loop-rest.invariant.fits

pub loop-rest-preserved : goal.loop-rest-preserved
loop-rest-preserved g c =
    let source = g.S.Source in
    let sink = g.K.Sink in
    let s = c.loop-rest in
    let new = c.ask.new in
    let within : c.min-most.result ≤ length s.rest.now = omega arith in
    record {
      pushed = pushed_more tt c.args.inputs.now s.rest.now s.asked c.min-most.result c.args.hearing.now s.hearing new.hearing
          (source.given c.args.source.now) (source.given s.source) (source.given new.source) (source.to_come c.args.source.now) (source.to_come s.source) (source.to_come new.source)
          (sink.taken c.args.sink.now) (sink.taken s.sink) (sink.taken new.sink) c.args.left.now s.left new.left
          (source.failed c.args.source.now + sink.failed c.args.sink.now) (source.failed s.source + sink.failed s.sink) (source.failed new.source + sink.failed new.sink)
          within s.invariant.sound s.invariant.pushed c.in_ok-ask.ensures.asked;
      fits = fits_behind s.rest.now c.min-most.result s.invariant.fits;
      turns = omega (arith, s.invariant.turns, c.in_ok-ask.ensures.turns);
      reads = omega (arith, s.invariant.reads, c.in_ok-ask.ensures.reads);
      writes = omega (arith, s.invariant.writes, c.in_ok-ask.ensures.writes);
      sound = c.in_ok-ask.ensures.sound ∙ s.invariant.sound;
    }

pub returns-in_err-ask-clause-asked : goal.returns-in_err-ask-clause-asked
returns-in_err-ask-clause-asked g c =
    let source = g.S.Source in
    let sink = g.K.Sink in
    let s = c.loop-rest in
    let new = c.ask.new in
    let within : c.min-most.result ≤ length s.rest.now = omega arith in
    asked_on c.from_residual.ensures.1 (pushed_part c.in_err-ask.field-0.0 c.args.inputs.now s.rest.now s.asked c.min-most.result c.args.hearing.now s.hearing new.hearing
    (source.given c.args.source.now) (source.given s.source) (source.given new.source) (source.to_come c.args.source.now) (source.to_come s.source) (source.to_come new.source)
    (sink.taken c.args.sink.now) (sink.taken s.sink) (sink.taken new.sink) c.args.left.now s.left new.left
    (source.failed c.args.source.now + sink.failed c.args.sink.now) (source.failed s.source + sink.failed s.sink) (source.failed new.source + sink.failed new.sink)
    within s.invariant.sound s.invariant.pushed c.in_err-ask.ensures.asked)

pub returns-clause-asked : goal.returns-clause-asked
returns-clause-asked g c =
    let source = g.S.Source in
    let sink = g.K.Sink in
    let s = c.loop-rest in
    let none : s.rest.now ≡ [] = grind (arith, common_steps) in
    pushed_all c.args.inputs.now s.rest.now s.asked c.args.hearing.now s.hearing
    (source.given c.args.source.now) (source.given s.source) (source.to_come c.args.source.now) (source.to_come s.source) (sink.taken c.args.sink.now) (sink.taken s.sink)
    c.args.left.now s.left (source.failed c.args.source.now + sink.failed c.args.sink.now) (source.failed s.source + sink.failed s.sink) none s.invariant.pushed
