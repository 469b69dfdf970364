use Rattle.std.proofs.Common.{◌≡◌, ◌+◌, ◌<◌, ◌≤◌, [], length, refl, inl, inr, ⊎_elim, arith}
use Rattle.std.proofs.lemmas.Grind.{common_steps}
use Rattle.std.proofs.lemmas.List.{length-take}
use Rattle.cue_net.proofs.Bringing.{front_taken, brought_on, brings_nothing, brings_more, brings_all, brings_stopped, brings_cut}
use Rattle.cue_net.proofs.carrying.carry_replies.Goals as goal

pub loop-rest-init : goal.loop-rest-init
loop-rest-init g c = record {
  brings = brings_nothing c.args.bytes.now c.args.hearing.now (g.S.Source.given c.args.source.now) (g.S.Source.to_come c.args.source.now) (g.K.Sink.taken c.args.sink.now) c.args.left.now;
  turns = refl;
  reads = omega arith;
  writes = omega arith;
  sound = refl;
}

pub loop-rest-preserved : goal.loop-rest-preserved
loop-rest-preserved g c =
    let source = g.S.Source in
    let sink = g.K.Sink in
    let s = c.loop-rest in
    let rest = s.rest.now in
    let most = c.min-most.result in
    let n = c.in_ok-count.count in
    let w = c.write_some.new.sink in
    let new = c.feed_exactly.new in
    let h = c.in_ok-feed_exactly.ensures.read in
    let few : most ≤ length rest = omega (arith, c.min-most.ensures) in
    let within : n ≤ length rest = omega (arith, c.in_ok-count.ensures.bound, length-take most rest) in
    let some : 0 < length rest = grind (arith, c.is_empty.ensures, c.loop-rest-test.true) in
    record {
      brings = brings_more c.args.bytes.now rest n c.args.hearing.now s.hearing new.hearing
          (source.given c.args.source.now) (source.given s.source) (source.given new.source) (source.to_come c.args.source.now) (source.to_come s.source) (source.to_come new.source)
          (sink.taken c.args.sink.now) (sink.taken s.sink) (sink.taken w) h.0 c.args.left.now s.left new.left within
          (omega (arith, c.in_ok-count.ensures.turn, c.in_ok-count.ensures.some, some, c.min-most.ensures, length-take most rest, h.3.0, h.5)) s.invariant.brings
          (front_taken (sink.taken s.sink) (sink.taken w) rest n most c.in_ok-count.ensures.bound few c.in_ok-count.ensures.takes) h.1 h.2 h.3.0 h.3.1;
      turns = omega (arith, s.invariant.turns, c.in_ok-count.ensures.turns, c.in_ok-feed_exactly.ensures.turns);
      reads = omega (arith, s.invariant.reads, c.in_ok-feed_exactly.ensures.turns, c.in_ok-feed_exactly.ensures.fewer);
      writes = omega (arith, s.invariant.writes, c.in_ok-count.ensures.turns, c.in_ok-count.ensures.fewer);
      sound = omega (arith, s.invariant.sound, c.in_ok-count.ensures.sound, c.in_ok-feed_exactly.ensures.sound);
    }

pub returns-in_err-count-clause-brought : goal.returns-in_err-count-clause-brought
returns-in_err-count-clause-brought g c =
    let source = g.S.Source in
    let sink = g.K.Sink in
    let s = c.loop-rest in
    let w = c.write_some.new in
    brought_on c.from_residual.ensures.1 (brings_stopped c.in_err-count.field-0.0 c.args.bytes.now s.rest.now c.args.hearing.now s.hearing
    (source.given c.args.source.now) (source.given s.source) (source.to_come c.args.source.now) (source.to_come s.source)
    (sink.taken c.args.sink.now) (sink.taken s.sink) (sink.taken w.sink) c.args.left.now s.left w.left (sink.failed s.sink) (sink.failed w.sink)
    (source.failed c.args.source.now + sink.failed c.args.sink.now) (source.failed s.source + sink.failed w.sink)
    (λ more. omega (arith, more, s.invariant.sound)) s.invariant.brings c.in_err-count.ensures.takes c.in_err-count.ensures.idle c.in_err-count.ensures.halt)

pub returns-in_err-feed_exactly-clause-brought : goal.returns-in_err-feed_exactly-clause-brought
returns-in_err-feed_exactly-clause-brought g c =
    let source = g.S.Source in
    let sink = g.K.Sink in
    let s = c.loop-rest in
    let rest = s.rest.now in
    let most = c.min-most.result in
    let n = c.in_ok-count.count in
    let w = c.write_some.new.sink in
    let new = c.feed_exactly.new in
    let h = c.in_err-feed_exactly.ensures.read in
    let few : most ≤ length rest = omega (arith, c.min-most.ensures) in
    let within : n ≤ length rest = omega (arith, c.in_ok-count.ensures.bound, length-take most rest) in
    let some : 0 < length rest = grind (arith, c.is_empty.ensures, c.loop-rest-test.true) in
    brought_on c.from_residual-in_err-feed_exactly.ensures.1 (brings_cut c.in_err-feed_exactly.field-0.0 c.args.bytes.now rest n c.args.hearing.now s.hearing new.hearing
    (source.given c.args.source.now) (source.given s.source) (source.given new.source) (source.to_come c.args.source.now) (source.to_come s.source) (source.to_come new.source)
    (sink.taken c.args.sink.now) (sink.taken s.sink) (sink.taken w) h.0 c.args.left.now s.left new.left (source.failed s.source) (source.failed new.source)
    (source.failed c.args.source.now + sink.failed c.args.sink.now) (source.failed new.source + sink.failed w)
    (λ more. omega (arith, more, s.invariant.sound, c.in_ok-count.ensures.sound)) within
    (⊎_elim inl (λ moved. inr (omega (arith, moved, c.in_ok-count.ensures.turn, c.in_ok-count.ensures.some, some, c.min-most.ensures, length-take most rest))) h.5) s.invariant.brings
    (front_taken (sink.taken s.sink) (sink.taken w) rest n most c.in_ok-count.ensures.bound few c.in_ok-count.ensures.takes) h.1 h.2 h.4)

pub returns-clause-brought : goal.returns-clause-brought
returns-clause-brought g c =
    let source = g.S.Source in
    let sink = g.K.Sink in
    let s = c.loop-rest in
    let none : s.rest.now ≡ [] = grind (arith, common_steps) in
    brings_all c.args.bytes.now s.rest.now c.args.hearing.now s.hearing
    (source.given c.args.source.now) (source.given s.source) (source.to_come c.args.source.now) (source.to_come s.source)
    (sink.taken c.args.sink.now) (sink.taken s.sink) c.args.left.now s.left
    (source.failed c.args.source.now + sink.failed c.args.sink.now) (source.failed s.source + sink.failed s.sink) none s.invariant.brings
