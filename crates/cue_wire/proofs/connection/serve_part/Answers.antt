use Rattle.std.proofs.Common.{◌++◌, sym, ◌∙◌}
use Rattle.cue_wire.specs.Inner.Parts.{ServesOrStops}
use Rattle.cue_wire.proofs.Connections.{cut_short, written_off, goes_on, handed_on}
use Rattle.cue_wire.proofs.connection.serve_part.Goals as goal

pub returns-in_err-write_all-clause-served : goal.returns-in_err-write_all-clause-served
returns-in_err-write_all-clause-served g c stream start taken turns before =
    let sink = g.K.Sink in
    let f = c.feed-fed in
    let w = c.write_all.ensures.written in
    let now = c.write_all.new in
    let kind = c.in_err-write_all.field-0.0 in
    let failed = sink.failed c.args.sink.now in
    handed_on (λ result. ServesOrStops result (stream ++ c.args.part.now) f.new.self start f.new.site f.new.out.items taken (sink.taken now.sink) turns now.left failed (sink.failed now.sink))
    c.from_residual.result kind c.from_residual.ensures.1
    (cut_short f.result kind stream c.args.part.now c.args.session.now f.new.self start c.args.site.now f.new.site c.args.out.now.items f.new.out.items
    taken (sink.taken c.args.sink.now) (sink.taken now.sink) turns c.args.left.now now.left failed (sink.failed now.sink) before (f.ensures.served before.rest before.keeps)
    (w.0, w.1, sym c.deref.ensures.value ∙ w.2, w.3, w.5) c.in_err-write_all.ensures.fault)

pub returns-in_ok-write_all-clause-served : goal.returns-in_ok-write_all-clause-served
returns-in_ok-write_all-clause-served g c stream start taken turns before =
    let sink = g.K.Sink in
    let f = c.feed-fed in
    let w = c.in_ok-write_all.ensures.written in
    let now = c.write_all.new in
    written_off f.result stream c.args.part.now c.args.session.now f.new.self start c.args.site.now f.new.site c.args.out.now.items f.new.out.items c.clear.new.self.items
    taken (sink.taken c.args.sink.now) (sink.taken now.sink) turns c.args.left.now now.left (sink.failed c.args.sink.now) (sink.failed now.sink) c.clear.ensures.items
    c.in_ok-write_all.ensures.sound before
    (f.ensures.served before.rest before.keeps) (w.0, w.1, sym c.deref.ensures.value ∙ w.2, w.3, w.4, w.5)

pub returns-else-len-ge-MANY-clause-served : goal.returns-else-len-ge-MANY-clause-served
returns-else-len-ge-MANY-clause-served g c stream start taken turns before =
    let sink = g.K.Sink in
    let f = c.feed-fed in
    let failed = sink.failed c.args.sink.now in
    goes_on f.result stream c.args.part.now c.args.session.now f.new.self start c.args.site.now f.new.site c.args.out.now.items f.new.out.items
    taken (sink.taken c.args.sink.now) turns c.args.left.now failed failed (sym c.is_err.ensures.value ∙ c.if-is_err.false) before (f.ensures.served before.rest before.keeps)
