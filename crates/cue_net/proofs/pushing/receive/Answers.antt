use Rattle.std.proofs.Common.{◌<◌, ◌++◌, [], length, length-append, take, refl, inl, inr, ⊎_elim, ◌∙◌, arith}
use Rattle.std.proofs.lemmas.List.{length-take-le}
use Rattle.std.proofs.KnownBytes.{Appends-nil, Appends-trans, Appends-kept, Consumes-nil, Consumes-trans, Consumes-kept}
use Rattle.cue_net.proofs.Hearing.{heard_on, hears_nothing, hears_more, stops_reading, stops_taking, long_as}
use Rattle.cue_net.proofs.pushing.receive.Goals as goal

pub loop-piece-init : goal.loop-piece-init
loop-piece-init g c = record {
  heard = ([], Appends-nil (g.S.Source.given c.args.source.now), Consumes-nil (g.S.Source.to_come c.args.source.now), hears_nothing c.args.hearing.now, omega arith);
  turns = refl;
  fewer = omega arith;
  sound = refl;
  room = refl;
}

pub loop-piece-preserved : goal.loop-piece-preserved
loop-piece-preserved g c =
    let source = g.S.Source in
    let s = c.loop-piece in
    let h = s.invariant.heard in
    let r = c.in_ok-got in
    let piece = take r.got c.read_some.new.into in
    record {
      heard = (
        h.0 ++ piece,
        Appends-trans (source.given c.args.source.now) (source.given s.source) (source.given c.read_some.new.source) h.0 piece h.1 r.ensures.gives,
        Consumes-trans (source.to_come c.args.source.now) (source.to_come s.source) (source.to_come c.read_some.new.source) h.0 piece h.2 r.ensures.takes.0,
        hears_more c.args.hearing.now s.hearing c.feed_client.new.hearing h.0 piece h.3 c.in_ok-feed_client.ensures.ok,
        omega (arith, h.4, r.ensures.turn, r.ensures.bound, length-append h.0 piece, length-take-le r.got c.read_some.new.into r.ensures.bound.1),
      );
      turns = omega (arith, s.invariant.turns, r.ensures.turns);
      fewer = omega (arith, s.invariant.fewer, r.ensures.fewer);
      sound = r.ensures.sound ∙ s.invariant.sound;
      room = r.ensures.room ∙ s.invariant.room;
    }

pub returns-in_err-got-clause-heard : goal.returns-in_err-got-clause-heard
returns-in_err-got-clause-heard g c =
    let source = g.S.Source in
    let s = c.loop-piece in
    let h = s.invariant.heard in
    let new = c.read_some.new.source in
    let few : length s.hearing.replies < c.args.count = omega (arith, long_as c.replies.result.now s.hearing.replies c.replies.ensures, c.loop-piece-test.true) in
    heard_on c.from_residual.ensures.1 (record {
      piece = h.0;
      gave = Appends-kept (source.given c.args.source.now) (source.given s.source) (source.given new) h.0 h.1 c.in_err-got.ensures.gives;
      took = Consumes-kept (source.to_come c.args.source.now) (source.to_come s.source) (source.to_come new) h.0 h.2 c.in_err-got.ensures.takes;
      moves = ⊎_elim inl (λ same. inr (omega (arith, same, h.4))) c.in_err-got.ensures.idle;
      ends = stops_reading c.in_err-got.field-0.0 c.args.hearing.now s.hearing h.0 c.args.count c.read_some.new.left (source.failed c.args.source.now) (source.failed s.source) (source.failed new)
          (source.to_come new) h.3 few s.invariant.sound c.in_err-got.ensures.halt;
    })

pub returns-in_err-feed_client-clause-heard : goal.returns-in_err-feed_client-clause-heard
returns-in_err-feed_client-clause-heard g c =
    let source = g.S.Source in
    let s = c.loop-piece in
    let h = s.invariant.heard in
    let new = c.read_some.new.source in
    let r = c.in_ok-got in
    let piece = take r.got c.read_some.new.into in
    heard_on c.from_residual-in_err-feed_client.ensures.1 (record {
      piece = h.0 ++ piece;
      gave = Appends-trans (source.given c.args.source.now) (source.given s.source) (source.given new) h.0 piece h.1 r.ensures.gives;
      took = Consumes-trans (source.to_come c.args.source.now) (source.to_come s.source) (source.to_come new) h.0 piece h.2 r.ensures.takes.0;
      moves = inr (omega (arith, h.4, r.ensures.turn, r.ensures.bound, length-append h.0 piece, length-take-le r.got c.read_some.new.into r.ensures.bound.1));
      ends = stops_taking c.in_err-feed_client.field-0.0 c.args.hearing.now s.hearing c.feed_client.new.hearing h.0 piece c.args.count c.read_some.new.left (source.failed c.args.source.now) (source.failed new)
          (source.to_come new) h.3 c.in_err-feed_client.ensures.err;
    })

pub returns-clause-heard : goal.returns-clause-heard
returns-clause-heard g c =
    let s = c.loop-piece in
    let h = s.invariant.heard in
    record {
      piece = h.0;
      gave = h.1;
      took = h.2;
      moves = h.4;
      ends = (h.3, omega (arith, long_as c.replies.result.now s.hearing.replies c.replies.ensures, c.loop-piece-test.false));
    }
