use Rattle.std.proofs.Common.{◌++◌, inr, refl}
use Rattle.std.proofs.lemmas.Result.{IfErr-weaker}
use Rattle.cue_wire.proofs.Connections.{err_on}
use Rattle.cue_program.specs.inner.Taking.{IsRefusedWithin, IsStopWithin}
use Rattle.cue_program.proofs.Takings.{line_plain, rest_read, stop_more, taken_where_short, up_to_more}
use Rattle.cue_program.proofs.stdin_splitter.StdinSplitter.take.Goals as goal

pub returns-in_err-end_line-clause-stop : goal.returns-in_err-end_line-clause-stop
returns-in_err-end_line-clause-stop c front h =
    let read = c.loop-end.invariant front h in
    err_on c.from_residual.result c.in_err-end_line.field-0.0 _ c.from_residual.ensures.1 (stop_more c.loop-end.self front c.args.piece.now c.loop-end.rest.now c.in-Some.end.now c.in-Some.after.now c.in_err-end_line.field-0.0 read
    c.in-Some.ensures.whole (c.in_err-end_line.ensures.stop (front ++ read.0) read.2))

pub loop-end-preserved : goal.loop-end-preserved
loop-end-preserved c front h =
    let read = c.loop-end.invariant front h in
    up_to_more c.loop-end.self c.end_line.new.self front c.args.piece.now c.loop-end.rest.now c.in-Some.end.now c.in-Some.after.now read
    c.in-Some.ensures.whole (c.in_ok-end_line.ensures.taken (front ++ read.0) read.2)

pub returns-clause-taken : goal.returns-clause-taken
returns-clause-taken c front h =
    let read = c.loop-end.invariant front h in
    let is = c.in_ok-extend_from_slice.ensures.items in
    taken_where_short _ (front ++ c.args.piece.now) c.check_length.result
    (rest_read c.loop-end.self _ front c.args.piece.now c.loop-end.rest.now read (record { gathered = refl; number = refl }) refl is)
    (line_plain c.loop-end.self (front ++ read.0) c.loop-end.rest.now c.extend_from_slice.new.self.items read.2 c.in_default.ensures.none is)
    c.check_length.ensures.short

pub returns-clause-stop : goal.returns-clause-stop
returns-clause-stop c front h =
    let read = c.loop-end.invariant front h in
    let is = c.in_ok-extend_from_slice.ensures.items in
    let bytes = front ++ c.args.piece.now in
    IfErr-weaker c.check_length.result (IsRefusedWithin bytes) (IsStopWithin bytes) (λ stop refused. inr refused)
    (c.check_length.ensures.long bytes
    (rest_read c.loop-end.self _ front c.args.piece.now c.loop-end.rest.now read (record { gathered = refl; number = refl }) refl is)
    (line_plain c.loop-end.self (front ++ read.0) c.loop-end.rest.now c.extend_from_slice.new.self.items read.2 c.in_default.ensures.none is))
