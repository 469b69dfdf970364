use Rattle.std.proofs.Common.{◌∙◌, sym}
use Rattle.std.proofs.lemmas.Bool.{false≢true}
use Rattle.cue_wire.proofs.Cuts.{taken, never, fails_for_room}
use Rattle.cue_wire.proofs.frame.next_frame.Goals as goal

pub returns-in-Ok-clause-whole : goal.returns-in-Ok-clause-whole
returns-in-Ok-clause-whole c =
    let whole = rw (c.in-Some.is, c.as_slice.ensures) at c.in_ok-body_length.ensures.whole in
    (taken c.codec.result c.args.stream.now.items _ c.in-Ok.body _ _ c.codec.ensures.layout c.codec.ensures.state whole c.in-Ok.ensures.next).0

pub returns-in-Ok-clause-unfinished : goal.returns-in-Ok-clause-unfinished
returns-in-Ok-clause-unfinished c =
    let whole = rw (c.in-Some.is, c.as_slice.ensures) at c.in_ok-body_length.ensures.whole in
    never _ c.in-Ok.body (taken c.codec.result c.args.stream.now.items _ c.in-Ok.body _ _ c.codec.ensures.layout c.codec.ensures.state whole c.in-Ok.ensures.next).1

pub unreachable-requires : goal.unreachable-requires
unreachable-requires c =
    let whole = rw (c.in-Some.is, c.as_slice.ensures) at c.in_ok-body_length.ensures.whole in
    let e = c.in-Err in
    let room = fails_for_room c.codec.result c.args.stream.now.items _ e.error _ _ c.codec.ensures.layout c.codec.ensures.state whole e.ensures.next in
    let equal = rw (c.kind.ensures ∙ room) at c.eq.ensures in
    false≢true (sym c.if-eq.false ∙ equal)
