use Rattle.std.proofs.Common.{[], ◌∷◌, refl}
use Rattle.json.specs.Reads.{token_of}
use Rattle.cue_report.specs.Stream.{flow_of}
use Rattle.cue_report.proofs.Flows.{streams_then, wrote}
use Rattle.cue_report.proofs.stream.Stream.token.Goals as goal

pub returns-clause-told : goal.returns-clause-told
returns-clause-told g c =
    let token = token_of c.args.token in
    let ready = flow_of (g.S.TextSink.taken c.make_room.new.out) c.make_room.new.self in
    let after = flow_of (g.S.TextSink.taken c.make_room.new.out) c.write.new.self in
    streams_then (flow_of (g.S.TextSink.taken c.args.out.now) c.args.self.now) ready after [] (token ∷ []) c.in_ok-make_room.ensures.told
    (wrote ready after token refl c.in_ok-write.ensures.pending c.in_ok-write.ensures.owes)
