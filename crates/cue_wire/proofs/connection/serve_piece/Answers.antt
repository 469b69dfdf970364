use Rattle.std.proofs.Common.{◌++◌, Err, refl, sym, ap, subst, ◌∙◌, append-nil, arith}
use Rattle.std.proofs.lemmas.List.{nil_from_length}
use Rattle.cue_wire.specs.Inner.Parts.{IsPartServed, RepliesWritten}
use Rattle.cue_wire.proofs.Connections.{nothing_served, stops_before, split_stream, ends_with, handed_on}
use Rattle.cue_wire.proofs.connection.serve_piece.Goals as goal

pub loop-rest-init : goal.loop-rest-init
loop-rest-init g c =
    let site = c.args.site.now in
    let session = c.args.session.now in
    let taken = g.K.Sink.taken c.args.sink.now in
    record {
      served = λ kept is unfinished. (
        kept,
        refl,
        subst (λ zs. IsPartServed kept session site site zs taken taken c.args.left.now c.args.left.now) (sym c.clear.ensures.items)
            (nothing_served kept session site taken c.args.left.now is unfinished),
      );
      turns = refl;
      fewer = omega arith;
      sound = refl;
    }

pub loop-rest-preserved : goal.loop-rest-preserved
loop-rest-preserved g c =
    let s = c.loop-rest in
    let p = c.serve_part in
    record {
      served = λ kept is unfinished. let so_far = s.invariant.served kept is unfinished in (
        so_far.0 ++ c.split_at.result.0.now,
        split_stream (kept ++ c.args.piece.now) so_far.0 s.rest.now c.split_at.result.0.now c.split_at.result.1.now c.min.result so_far.1 c.split_at.ensures.front c.split_at.ensures.back,
        c.in_ok-serve_part.ensures.served so_far.0 c.args.site.now (g.K.Sink.taken c.args.sink.now) c.args.left.now so_far.2,
      );
      turns = p.ensures.turns ∙ s.invariant.turns;
      fewer = omega (arith, p.ensures.fewer, s.invariant.fewer);
      sound = c.in_ok-serve_part.ensures.sound ∙ s.invariant.sound;
    }

pub returns-in_err-serve_part-clause-served : goal.returns-in_err-serve_part-clause-served
returns-in_err-serve_part-clause-served g c kept is unfinished =
    let sink = g.K.Sink in
    let s = c.loop-rest in
    let p = c.serve_part.new in
    let whole = kept ++ c.args.piece.now in
    let part = c.split_at.result.0.now in
    let site = c.args.site.now in
    let taken = sink.taken c.args.sink.now in
    let kind = c.in_err-serve_part.field-0.0 in
    let so_far = s.invariant.served kept is unfinished in
    handed_on (λ result. RepliesWritten result whole p.session site p.site taken (sink.taken p.sink) c.args.left.now p.left (sink.failed c.args.sink.now) (sink.failed p.sink))
    c.from_residual.result kind c.from_residual.ensures.1
    (stops_before kind (so_far.0 ++ part) c.split_at.result.1.now whole p.session site p.site taken (sink.taken p.sink) c.args.left.now p.left (sink.failed c.args.sink.now) (sink.failed p.sink)
    (split_stream whole so_far.0 s.rest.now part c.split_at.result.1.now c.min.result so_far.1 c.split_at.ensures.front c.split_at.ensures.back)
    (subst (λ n. RepliesWritten (Err kind) (so_far.0 ++ part) p.session site p.site taken (sink.taken p.sink) c.args.left.now p.left n (sink.failed p.sink)) s.invariant.sound
    (c.in_err-serve_part.ensures.served so_far.0 site taken c.args.left.now so_far.2)))

pub returns-clause-served : goal.returns-clause-served
returns-clause-served g c kept is unfinished =
    let sink = g.K.Sink in
    let s = c.loop-rest in
    let n = c.write_all.new in
    let w = c.write_all.ensures.written in
    let site = c.args.site.now in
    let taken = sink.taken c.args.sink.now in
    let so_far = s.invariant.served kept is unfinished in
    let end = nil_from_length s.rest.now (grind (arith, c.is_empty.ensures, c.loop-rest-test.false)) in
    let all = so_far.1 ∙ ap (λ zs. so_far.0 ++ zs) end ∙ append-nil so_far.0 in
    subst (λ zs. RepliesWritten c.write_all.result zs s.session site s.site taken (sink.taken n.sink) c.args.left.now n.left (sink.failed c.args.sink.now) (sink.failed n.sink)) (sym all)
    (subst (λ m. RepliesWritten c.write_all.result so_far.0 s.session site s.site taken (sink.taken n.sink) c.args.left.now n.left m (sink.failed n.sink)) s.invariant.sound
    (ends_with c.write_all.result so_far.0 s.session site s.site s.out.items taken (sink.taken s.sink) (sink.taken n.sink) c.args.left.now s.left n.left (sink.failed s.sink) (sink.failed n.sink) so_far.2
    (w.0, w.1, sym c.deref.ensures.value ∙ w.2, w.3, w.4, w.5) c.write_all.ensures.fault))
