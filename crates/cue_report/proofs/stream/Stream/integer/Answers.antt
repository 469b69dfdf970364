use Rattle.std.proofs.Common.{[], ◌∷◌, ◌++◌, refl, ap, ◌∙◌}
use Rattle.std.proofs.Math.Facts.{to_z-of_z}
use Rattle.std.specs.Fmt.{signed_decimal}
use Rattle.json.specs.Print.{print_from}
use Rattle.json.specs.Token.{number}
use Rattle.cue_report.specs.Stream.{flow_of}
use Rattle.cue_report.proofs.Flows.{streams_then, wrote}
use Rattle.cue_report.proofs.stream.Stream.integer.Goals as goal

pub returns-clause-told : goal.returns-clause-told
returns-clause-told g c =
    let token = number (signed_decimal c.args.integer) in
    let ready = flow_of (g.S.TextSink.taken c.make_room.new.out) c.make_room.new.self in
    let after = flow_of (g.S.TextSink.taken c.make_room.new.out) c.write_integer.new.self in
    streams_then (flow_of (g.S.TextSink.taken c.args.out.now) c.args.self.now) ready after [] (token ∷ []) c.in_ok-make_room.ensures.told
    (wrote ready after token refl (c.in_ok-write_integer.ensures.pending ∙ ap (λ z. c.make_room.new.self.pending ++ print_from c.make_room.new.self.owes (number (signed_decimal z) ∷ [])) (to_z-of_z c.ranges.integer)) c.in_ok-write_integer.ensures.owes)
