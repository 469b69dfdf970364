use Rattle.std.proofs.Common.{◌≡◌, ◌+◌, ◌-◌, ◌<◌, ◌≤◌, ◌++◌, [], length, take, drop, flat_map, refl, ap, sym, ◌∙◌, arith, inl, inr, ⊎_elim, append-nil}
use Rattle.std.proofs.lemmas.Grind.{common_steps}
use Rattle.std.proofs.lemmas.List.{length-take, length-take-le}
use Rattle.cue_wire.specs.Clients.{request_frame}
use Rattle.cue_net.proofs.Bringing.{front_taken, parts_more}
use Rattle.cue_net.proofs.Exchanging.{ex_on, ex_nothing, ex_none, ex_then, ex_part, ex_is, piece_exchanged, piece_unwritten, piece_unserved, piece_unheard}
use Rattle.cue_net.proofs.looped.exchange.Goals as goal

pub loop-rest-init : goal.loop-rest-init
loop-rest-init g c =
    let source = g.S.Source in
    let sink = g.K.Sink in
    let near = c.args.near.now in
    let far = c.args.far.now in
    let at = c.args.serving.now in
    record {
      exchanged = (
        [],
        sym (c.outgoing-rest.ensures ∙ c.in_ok-asking.ensures.outgoing),
        ex_nothing c.args.hearing.now at.session at.site (source.given near.source) (source.to_come near.source) (sink.taken near.sink)
            (source.given far.source) (source.to_come far.source) (sink.taken far.sink) c.args.left.now
            (source.failed near.source + sink.failed near.sink + source.failed far.source + sink.failed far.sink),
      );
      turns = refl;
      heard = omega arith;
      sent = omega arith;
      read = omega arith;
      told = omega arith;
      sound = refl;
    }

pub loop-rest-preserved : goal.loop-rest-preserved
loop-rest-preserved g c =
    let source = g.S.Source in
    let sink = g.K.Sink in
    let s = c.loop-rest in
    let e = s.invariant.exchanged in
    let rest = s.rest.now in
    let most = c.min-most.result in
    let n = c.in_ok-count.count in
    let piece = take n rest in
    let w = c.write_some.new.sink in
    let sv = c.serve_so_many.new in
    let b = c.carry_replies.new in
    let q = c.in_ok-serve_so_many.ensures.read in
    let few : most ≤ length rest = omega (arith, c.min-most.ensures) in
    let within : n ≤ length rest = omega (arith, c.in_ok-count.ensures.bound, length-take most rest) in
    let some : 0 < length rest = grind (arith, c.is_empty.ensures, c.loop-rest-test.true) in
    let failed = source.failed s.near.source + sink.failed s.near.sink + source.failed s.far.source + sink.failed s.far.sink in
    let failed' = source.failed b.source + sink.failed w + source.failed sv.source + sink.failed b.sink in
    record {
      exchanged = (
        e.0 ++ piece,
        parts_more (flat_map request_frame c.args.requests.now) e.0 rest n e.1,
        ex_then s.invariant.sound e.2 (piece_exchanged piece n s.hearing b.hearing s.serving.session sv.serving.session s.serving.site sv.serving.site
            c.clear.new.self.items sv.serving.out.items c.deref.result.now q.0
            (source.given s.near.source) (source.given b.source) (source.to_come s.near.source) (source.to_come b.source) (sink.taken s.near.sink) (sink.taken w)
            (source.given s.far.source) (source.given sv.source) (source.to_come s.far.source) (source.to_come sv.source) (sink.taken s.far.sink) (sink.taken b.sink)
            s.left sv.left b.left (source.failed s.near.source + sink.failed s.far.sink) (source.failed b.source + sink.failed b.sink) failed failed'
            (length-take-le n rest within)
            (omega (arith, c.in_ok-count.ensures.turn, c.in_ok-count.ensures.some, some, c.min-most.ensures, length-take most rest, q.3.0, q.5)) c.clear.ensures.items c.deref.ensures.value
            (front_taken (sink.taken s.near.sink) (sink.taken w) rest n most c.in_ok-count.ensures.bound few c.in_ok-count.ensures.takes)
            q.1 q.2 q.3 c.in_ok-carry_replies.ensures.brought),
      );
      turns = omega (arith, s.invariant.turns, c.in_ok-count.ensures.turns, c.in_ok-serve_so_many.ensures.turns, c.in_ok-carry_replies.ensures.turns);
      heard = omega (arith, s.invariant.heard, c.in_ok-carry_replies.ensures.reads);
      sent = omega (arith, s.invariant.sent, c.in_ok-count.ensures.turns, c.in_ok-count.ensures.fewer);
      read = omega (arith, s.invariant.read, c.in_ok-serve_so_many.ensures.turns, c.in_ok-serve_so_many.ensures.fewer);
      told = omega (arith, s.invariant.told, c.in_ok-carry_replies.ensures.writes);
      sound = omega (arith, s.invariant.sound, c.in_ok-count.ensures.sound, c.in_ok-serve_so_many.ensures.sound, c.in_ok-carry_replies.ensures.sound);
    }

pub returns-in_err-asking-clause-exchanged : goal.returns-in_err-asking-clause-exchanged
returns-in_err-asking-clause-exchanged g c =
    let source = g.S.Source in
    let sink = g.K.Sink in
    let near = c.args.near.now in
    let far = c.args.far.now in
    let at = c.args.serving.now in
    ex_on c.from_residual.ensures.1 (ex_none c.in_err-asking.field-0.0 (flat_map request_frame c.args.requests.now) c.args.hearing.now at.session at.site
    (source.given near.source) (source.to_come near.source) (sink.taken near.sink) (source.given far.source) (source.to_come far.source) (sink.taken far.sink)
    c.args.left.now (source.failed near.source + sink.failed near.sink + source.failed far.source + sink.failed far.sink)
    (⊎_elim (λ memory. memory) (λ long. absurd (long.1 c.requires.fits)) c.in_err-asking.ensures.err))

pub returns-in_err-count-clause-exchanged : goal.returns-in_err-count-clause-exchanged
returns-in_err-count-clause-exchanged g c =
    let source = g.S.Source in
    let sink = g.K.Sink in
    let s = c.loop-rest in
    let e = s.invariant.exchanged in
    let w = c.write_some.new in
    ex_on c.from_residual-in_err-count.ensures.1 (ex_is e.1 (ex_then s.invariant.sound e.2 (piece_unwritten c.in_err-count.field-0.0 s.rest.now s.hearing s.serving.session s.serving.site
    (source.given s.near.source) (source.to_come s.near.source) (sink.taken s.near.sink) (sink.taken w.sink)
    (source.given s.far.source) (source.to_come s.far.source) (sink.taken s.far.sink) s.left w.left (sink.failed s.near.sink) (sink.failed w.sink)
    (source.failed s.near.source + sink.failed s.near.sink + source.failed s.far.source + sink.failed s.far.sink)
    (source.failed s.near.source + sink.failed w.sink + source.failed s.far.source + sink.failed s.far.sink)
    (λ more. omega (arith, more)) c.in_err-count.ensures.takes c.in_err-count.ensures.idle c.in_err-count.ensures.halt)))

pub returns-in_err-serve_so_many-clause-exchanged : goal.returns-in_err-serve_so_many-clause-exchanged
returns-in_err-serve_so_many-clause-exchanged g c =
    let source = g.S.Source in
    let sink = g.K.Sink in
    let s = c.loop-rest in
    let e = s.invariant.exchanged in
    let rest = s.rest.now in
    let most = c.min-most.result in
    let n = c.in_ok-count.count in
    let piece = take n rest in
    let w = c.write_some.new.sink in
    let sv = c.serve_so_many.new in
    let q = c.in_err-serve_so_many.ensures.read in
    let few : most ≤ length rest = omega (arith, c.min-most.ensures) in
    let within : n ≤ length rest = omega (arith, c.in_ok-count.ensures.bound, length-take most rest) in
    let some : 0 < length rest = grind (arith, c.is_empty.ensures, c.loop-rest-test.true) in
    ex_on c.from_residual-in_err-serve_so_many.ensures.1 (ex_is (parts_more (flat_map request_frame c.args.requests.now) e.0 rest n e.1) (ex_part (take (length rest - n) (drop n rest))
    (ex_then s.invariant.sound e.2 (piece_unserved c.in_err-serve_so_many.field-0.0 piece q.0 n s.hearing s.serving.session sv.serving.session s.serving.site sv.serving.site
    (source.given s.near.source) (source.to_come s.near.source) (sink.taken s.near.sink) (sink.taken w)
    (source.given s.far.source) (source.given sv.source) (source.to_come s.far.source) (source.to_come sv.source) (sink.taken s.far.sink)
    s.left sv.left (source.failed s.far.source) (source.failed sv.source)
    (source.failed s.near.source + sink.failed s.near.sink + source.failed s.far.source + sink.failed s.far.sink)
    (source.failed s.near.source + sink.failed w + source.failed sv.source + sink.failed s.far.sink)
    (λ more. omega (arith, more, c.in_ok-count.ensures.sound))
    (⊎_elim inl (λ moved. inr (omega (
      arith,
      moved,
      c.in_ok-count.ensures.turn,
      c.in_ok-count.ensures.some,
      some,
      c.min-most.ensures,
      length-take most rest,
      length-take-le n rest within,
    ))) q.5)
    (front_taken (sink.taken s.near.sink) (sink.taken w) rest n most c.in_ok-count.ensures.bound few c.in_ok-count.ensures.takes)
    q.1 q.2 (length-take-le n rest within) q.4))))

pub returns-in_err-carry_replies-clause-exchanged : goal.returns-in_err-carry_replies-clause-exchanged
returns-in_err-carry_replies-clause-exchanged g c =
    let source = g.S.Source in
    let sink = g.K.Sink in
    let s = c.loop-rest in
    let e = s.invariant.exchanged in
    let rest = s.rest.now in
    let most = c.min-most.result in
    let n = c.in_ok-count.count in
    let piece = take n rest in
    let w = c.write_some.new.sink in
    let sv = c.serve_so_many.new in
    let b = c.carry_replies.new in
    let q = c.in_ok-serve_so_many.ensures.read in
    let few : most ≤ length rest = omega (arith, c.min-most.ensures) in
    let within : n ≤ length rest = omega (arith, c.in_ok-count.ensures.bound, length-take most rest) in
    let some : 0 < length rest = grind (arith, c.is_empty.ensures, c.loop-rest-test.true) in
    ex_on c.from_residual-in_err-carry_replies.ensures.1 (ex_is (parts_more (flat_map request_frame c.args.requests.now) e.0 rest n e.1) (ex_part (take (length rest - n) (drop n rest))
    (ex_then s.invariant.sound e.2 (piece_unheard c.in_err-carry_replies.field-0.0 piece c.deref.result.now q.0 s.hearing b.hearing
    s.serving.session sv.serving.session s.serving.site sv.serving.site
    (source.given s.near.source) (source.given b.source) (source.to_come s.near.source) (source.to_come b.source) (sink.taken s.near.sink) (sink.taken w)
    (source.given s.far.source) (source.given sv.source) (source.to_come s.far.source) (source.to_come sv.source) (sink.taken s.far.sink) (sink.taken b.sink)
    s.left sv.left b.left (source.failed s.near.source + sink.failed s.far.sink) (source.failed b.source + sink.failed b.sink)
    (source.failed s.near.source + sink.failed s.near.sink + source.failed s.far.source + sink.failed s.far.sink)
    (source.failed b.source + sink.failed w + source.failed sv.source + sink.failed b.sink)
    (λ more. omega (arith, more, c.in_ok-count.ensures.sound, c.in_ok-serve_so_many.ensures.sound))
    (omega (arith, c.in_ok-count.ensures.turn, c.in_ok-count.ensures.some, some, c.min-most.ensures, length-take most rest, q.3.0, q.5, length-take-le n rest within))
    (front_taken (sink.taken s.near.sink) (sink.taken w) rest n most c.in_ok-count.ensures.bound few c.in_ok-count.ensures.takes)
    q.1 q.2 c.in_err-carry_replies.ensures.brought))))

pub returns-clause-exchanged : goal.returns-clause-exchanged
returns-clause-exchanged g c =
    let s = c.loop-rest in
    let e = s.invariant.exchanged in
    let none : s.rest.now ≡ [] = grind (arith, common_steps) in
    ex_is (e.1 ∙ ap (λ zs. e.0 ++ zs) none ∙ append-nil e.0) e.2
