use Rattle.std.proofs.Common.{◌++◌, ◌∙◌, subst, sym}
use Rattle.cue_program.specs.inner.Taking.{IsStopWithin}
use Rattle.cue_program.proofs.Takings.{memory_within, never_device, none_refused, refusal_stops, still_refused}
use Rattle.cue_program.proofs.stdin_splitter.Texts.take.Goals as goal

pub returns-then-is_some : goal.returns-then-is_some
returns-then-is_some c = record {
  taken = λ front h. still_refused c.args.self.now.taken c.args.self.now.refused front c.args.piece.now (sym c.is_some.ensures ∙ c.if-is_some.true) h;
  fault = λ front h. tt;
}

pub returns-in-Err-RefusedInput : goal.returns-in-Err-RefusedInput
returns-in-Err-RefusedInput c = record {
  taken = λ front h. (
      let taken = none_refused c.args.self.now.taken c.args.self.now.refused front (sym c.is_some.ensures ∙ c.if-is_some.false) h in
      refusal_stops (front ++ c.args.piece.now) c.in-Err-RefusedInput.why c.in-Err-RefusedInput.number
      (subst (IsStopWithin (front ++ c.args.piece.now)) c.in-Err-RefusedInput.field-0-is (c.in-Err-RefusedInput.ensures.stop front taken)));
  fault = λ front h. tt;
}

pub returns-in-Err-Refused : goal.returns-in-Err-Refused
returns-in-Err-Refused c = record {
  taken = λ front h. tt;
  fault = λ front h. (
      let taken = none_refused c.args.self.now.taken c.args.self.now.refused front (sym c.is_some.ensures ∙ c.if-is_some.false) h in
      memory_within (front ++ c.args.piece.now) c.in-Err-Refused.kind
      (subst (IsStopWithin (front ++ c.args.piece.now)) c.in-Err-Refused.field-0-is (c.in-Err-Refused.ensures.stop front taken)));
}

pub returns-in-Err-Device : goal.returns-in-Err-Device
returns-in-Err-Device c = record {
  taken = λ front h. tt;
  fault = λ front h. (
      let taken = none_refused c.args.self.now.taken c.args.self.now.refused front (sym c.is_some.ensures ∙ c.if-is_some.false) h in
      never_device (front ++ c.args.piece.now)
      (subst (IsStopWithin (front ++ c.args.piece.now)) c.in-Err-Device.field-0-is (c.in-Err-Device.ensures.stop front taken)));
}
