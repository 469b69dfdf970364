use Rattle.std.proofs.Common.{◌++◌, ◌<◌, length, take, inr, ◌∙◌, arith, length-append}
use Rattle.std.proofs.KnownBytes.{Appends-trans, Consumes-trans}
use Rattle.std.proofs.lemmas.List.{length-take-le, length-take}
use Rattle.cue_net.specs.Inner.Hearing.{FindsLongFrame}
use Rattle.cue_net.proofs.Hearing.{hears_more, balks_later}
use Rattle.cue_net.proofs.Looping.{takes_nothing, none_ok, moved_on}
use Rattle.cue_wire.proofs.Connections.{err_on}
use Rattle.cue_net.proofs.carrying.feed_exactly.Goals as goal

pub returns-in_err-feed_client-clause-read : goal.returns-in_err-feed_client-clause-read
returns-in_err-feed_client-clause-read g c =
    let source = g.S.Source in
    let s = c.loop-got in
    let h = s.invariant.heard in
    let new = c.read_some.new.source in
    let piece = take c.in_ok-some.some c.read_some.new.into in (
      h.0 ++ piece,
      Appends-trans (source.given c.args.source.now) (source.given s.source) (source.given new) h.0 piece h.1 c.in_ok-some.ensures.gives,
      Consumes-trans (source.to_come c.args.source.now) (source.to_come s.source) (source.to_come new) h.0 piece h.2 c.in_ok-some.ensures.takes.0,
      none_ok c.from_residual-in_err-feed_client.result c.in_err-feed_client.field-0.0 _ c.from_residual-in_err-feed_client.ensures.1,
      err_on c.from_residual-in_err-feed_client.result c.in_err-feed_client.field-0.0 _ c.from_residual-in_err-feed_client.ensures.1 (takes_nothing c.in_err-feed_client.field-0.0 c.read_some.new.left (source.failed c.args.source.now) (source.failed new) (source.to_come new)
          (length (h.0 ++ piece) < c.args.count) (FindsLongFrame s.hearing piece) (FindsLongFrame c.args.hearing.now (h.0 ++ piece)) (balks_later c.args.hearing.now s.hearing h.0 piece h.4) c.in_err-feed_client.ensures.err),
      moved_on c.from_residual-in_err-feed_client.result c.in_err-feed_client.field-0.0 c.args.left.now c.read_some.new.left (length (h.0 ++ piece)) c.from_residual-in_err-feed_client.ensures.1 (inr (omega (arith, s.invariant.moves, c.in_ok-some.ensures.turn, c.in_ok-some.ensures.bound, h.3, length-append h.0 piece, length-take-le c.in_ok-some.some c.read_some.new.into c.in_ok-some.ensures.bound.1))),
    )

pub loop-got-preserved : goal.loop-got-preserved
loop-got-preserved g c =
    let source = g.S.Source in
    let s = c.loop-got in
    let h = s.invariant.heard in
    let r = c.in_ok-some in
    let new = c.read_some.new.source in
    let into = c.read_some.new.into in
    let piece = take r.some into in
    record {
      heard = (
        h.0 ++ piece,
        Appends-trans (source.given c.args.source.now) (source.given s.source) (source.given new) h.0 piece h.1 r.ensures.gives,
        Consumes-trans (source.to_come c.args.source.now) (source.to_come s.source) (source.to_come new) h.0 piece h.2 r.ensures.takes.0,
        omega (arith, length-append h.0 piece, length-take-le r.some into r.ensures.bound.1, h.3),
        hears_more c.args.hearing.now s.hearing c.feed_client.new.hearing h.0 piece h.4 c.in_ok-feed_client.ensures.ok,
      );
      moves = omega (arith, s.invariant.moves, r.ensures.turn, r.ensures.bound);
      within = omega (arith, r.ensures.bound.1, r.ensures.room, length-take c.min-most.result s.piece, c.min-most.ensures, c.loop-got-test.true);
      turns = omega (arith, s.invariant.turns, r.ensures.turns);
      fewer = omega (arith, s.invariant.fewer, r.ensures.fewer);
      sound = r.ensures.sound ∙ s.invariant.sound;
    }
