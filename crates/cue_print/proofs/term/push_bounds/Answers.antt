use Rattle.std.proofs.Common.{◌++◌, arith}
use Rattle.std.specs.Fmt.{signed_decimal}
use Rattle.std.specs.Io.KnownBytes.{Appends}
use Rattle.cue_device.specs.Texts.{WritesPrefix}
use Rattle.cue_device.proofs.Texts.{begins_later}
use Rattle.cue_device.proofs.Telling.{on_err}
use Rattle.cue_print.proofs.term.push_bounds.Goals as goal

pub returns-in_err-push_bound-2-clause-begun : goal.returns-in_err-push_bound-2-clause-begun
returns-in_err-push_bound-2-clause-begun g c =
    let told : Appends (g.S.TextSink.taken c.args.out.now) (g.S.TextSink.taken c.push_bound.new.out) (c.args.low.now ++ signed_decimal c.args.first) = grind arith in
    let begun : WritesPrefix (g.S.TextSink.taken c.push_bound.new.out) (g.S.TextSink.taken c.push_bound-2.new.out) (c.args.high.now ++ signed_decimal c.args.last) = grind arith in
    on_err _ (begins_later _ _ _ _ _ told begun)
