use Rattle.std.proofs.Common.{◌≡◌, ◌≢◌, ◌+◌, ◌-◌, ◌∙◌, ◌↔◌, inl, inr, refl, ap, take, arith, IsTrue, []}
use Rattle.std.specs.Io.KnownBytes.{IsAtEnd}
use Rattle.cue_lattice.specs.declared.refusal.Kind.TheVariants as kinds
use Rattle.cue_wire.specs.Frames.{IsUnfinished}
use Rattle.cue_wire.specs.Connections.{IsServingStop, IsFault, ServedPassage, PassesBy, ServingEndsAt, failures, moment_of}
use Rattle.cue_wire.proofs.Connections.{some_read, begun, went_on, stopped, handed_on, none_read, failed_read, halted, between}
use Rattle.cue_wire.proofs.connection.serve.Goals as goal

pub loop-left-init : goal.loop-left-init
loop-left-init g c =
    let source = g.S.Source in
    let sink = g.K.Sink in
    let at = moment_of source.given source.to_come sink.taken source.called sink.called source.failed sink.failed in
    record {
      so_far = begun c.args.site.now c.new_unfed-session.result (at c.args.source.now c.args.sink.now) c.new_unfed-session.ensures;
      turns = refl;
      reads = omega arith;
      writes = omega arith;
      sound = refl;
      room = refl;
    }

pub returns-in_default-clause-passage : goal.returns-in_default-clause-passage
returns-in_default-clause-passage g c =
    let source = g.S.Source in
    let sink = g.K.Sink in
    let s = c.loop-left in
    let at = moment_of source.given source.to_come sink.taken source.called sink.called source.failed sink.failed in
    let before = at c.args.source.now c.args.sink.now in
    let now = at s.source s.sink in
    let after = at c.read.new.self s.sink in
    halted c.args.site.now s.site s.session before (record now { given = after.given; to_come = after.to_come })
    (failed_read c.args.site.now s.site s.session before now after.given after.to_come s.invariant.so_far c.in_default.ensures.gives c.in_default.ensures.takes)
    (λ rest unwritten read written. IsServingStop kinds.Device rest unwritten (IsFault kinds.Device read written c.args.turns before after) × (kinds.Device ≡ kinds.Memory → read ≢ []))
    (inr (inr (inr (refl, omega (arith, s.invariant.sound, c.in_default.ensures.counts.1)))), λ other nil. cc)

pub returns-then-count-eq0-clause-passage : goal.returns-then-count-eq0-clause-passage
returns-then-count-eq0-clause-passage g c =
    let source = g.S.Source in
    let sink = g.K.Sink in
    let s = c.loop-left in
    let at = moment_of source.given source.to_come sink.taken source.called sink.called source.failed sink.failed in
    let before = at c.args.source.now c.args.sink.now in
    let now = at s.source s.sink in
    let after = at c.read.new.self s.sink in
    let r = c.in-Ok in
    let so_far = none_read c.args.site.now s.site s.session before now after (take r.count c.read.new.into)
    s.invariant.so_far (ap (λ n. take n c.read.new.into) c.if-count-eq0.true) r.ensures.gives r.ensures.takes.0 refl in
    halted c.args.site.now s.site s.session (record before { reads = 0; writes = 0 }) (record after { reads = 0; writes = 0 }) so_far
    (λ rest unwritten read written. IsAtEnd after.to_come × IsUnfinished rest × (unwritten ≡ []) × (IsTrue c.is_between_frames-whole.result ↔ rest ≡ []) × (failures after ≡ failures before)) (
      r.ensures.takes.1 c.if-count-eq0.true (omega (arith, r.ensures.room, s.invariant.room)),
      so_far.unfinished,
      refl,
      between s.session so_far.kept c.is_between_frames-whole.result so_far.keeps c.is_between_frames-whole.ensures,
      omega (arith, s.invariant.sound, r.ensures.counts.1),
    )

pub loop-left-preserved : goal.loop-left-preserved
loop-left-preserved g c =
    let source = g.S.Source in
    let sink = g.K.Sink in
    let s = c.loop-left in
    let r = c.in-Ok in
    let p = c.serve_piece in
    let at = moment_of source.given source.to_come sink.taken source.called sink.called source.failed sink.failed in
    record {
      so_far = went_on c.args.site.now s.site p.new.site s.session p.new.session
          (at c.args.source.now c.args.sink.now) (at s.source s.sink) (at c.read.new.self p.new.sink)
          p.result c.in_ok-serve_piece.field-0 (take r.count c.read.new.into)
          (s.left - 1) p.new.left (sink.failed s.sink) (sink.failed p.new.sink)
          s.invariant.so_far r.ensures.gives r.ensures.takes.0 c.in_ok-serve_piece.was
          (some_read r.count c.read.new.into r.ensures.bound c.if-count-eq0.false) r.ensures.counts.0 p.ensures.turns c.in_ok-serve_piece.ensures.sound
          (p.ensures.served s.invariant.so_far.kept s.invariant.so_far.keeps s.invariant.so_far.unfinished);
      turns = omega (arith, s.invariant.turns, r.ensures.counts.0, p.ensures.turns, c.loop-left-test.true);
      reads = omega (arith, s.invariant.reads, r.ensures.counts.0);
      writes = omega (arith, s.invariant.writes, p.ensures.turns, p.ensures.fewer);
      sound = omega (arith, s.invariant.sound, r.ensures.counts.1, c.in_ok-serve_piece.ensures.sound);
      room = r.ensures.room ∙ s.invariant.room;
    }

pub returns-in_err-serve_piece-clause-passage : goal.returns-in_err-serve_piece-clause-passage
returns-in_err-serve_piece-clause-passage g c =
    let source = g.S.Source in
    let sink = g.K.Sink in
    let s = c.loop-left in
    let r = c.in-Ok in
    let p = c.serve_piece in
    let site = c.args.site.now in
    let at = moment_of source.given source.to_come sink.taken source.called sink.called source.failed sink.failed in
    let before = at c.args.source.now c.args.sink.now in
    let after = at c.read.new.self p.new.sink in
    handed_on (λ result. (passage : ServedPassage site p.new.site) × PassesBy passage before after × ServingEndsAt result passage c.args.turns before after)
    c.from_residual.result c.in_err-serve_piece.field-0.0 c.from_residual.ensures.1
    (stopped site s.site p.new.site s.session p.new.session before (at s.source s.sink) after p.result c.in_err-serve_piece.field-0.0 (take r.count c.read.new.into)
    c.args.turns (s.left - 1) p.new.left (sink.failed s.sink) (sink.failed p.new.sink)
    s.invariant.so_far r.ensures.gives r.ensures.takes.0
    c.in_err-serve_piece.was (some_read r.count c.read.new.into r.ensures.bound c.if-count-eq0.false) r.ensures.counts.0 p.ensures.turns
    (p.ensures.served s.invariant.so_far.kept s.invariant.so_far.keeps s.invariant.so_far.unfinished)
    (λ none. omega (arith, none, s.invariant.turns, r.ensures.counts.0, p.ensures.turns, c.loop-left-test.true))
    (λ more. omega (arith, more, s.invariant.sound, r.ensures.counts.1)))

pub returns-clause-passage : goal.returns-clause-passage
returns-clause-passage g c =
    let source = g.S.Source in
    let sink = g.K.Sink in
    let s = c.loop-left in
    let at = moment_of source.given source.to_come sink.taken source.called sink.called source.failed sink.failed in
    let before = at c.args.source.now c.args.sink.now in
    let after = at s.source s.sink in
    halted c.args.site.now s.site s.session before after s.invariant.so_far
    (λ rest unwritten read written. IsServingStop kinds.TurnsUsed rest unwritten (IsFault kinds.TurnsUsed read written c.args.turns before after) × (kinds.TurnsUsed ≡ kinds.Memory → read ≢ []))
    (inr (inr (inl (refl, omega (arith, s.invariant.turns, c.loop-left-test.false), s.invariant.so_far.pulled, s.invariant.so_far.pushed))), λ other nil. cc)
