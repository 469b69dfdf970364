use Rattle.std.proofs.Common.{◌≡◌, ℕ, List, ◌∙◌, subst}
use Rattle.http.specs.Request.{body_of}
use Rattle.cue_service.specs.declared.admission.Admission.{Admission}
use Rattle.cue_service.specs.declared.admission.Admission.TheVariants.{Accepted, OverLimit}
use Rattle.cue_service.specs.Answering.{IsSpared}
use Rattle.cue_service.specs.Inner.Admissions.{IsAdmittedOrKnown}
use Rattle.cue_service.specs.Refusals.{IsLeftOut}
use Rattle.cue_service.specs.Requests.{piece_of_bytes}
use Rattle.cue_service.proofs.Admitted.{accepted, too_much}
use Rattle.cue_service.proofs.Handing.{acknowledged, too_costly_if, turned_down_if, without_room_if}
use Rattle.cue_service.proofs.desk.SiteCore.accept_request.Goals as goal

pub returns-in-Ok-Accepted-clause-ok : goal.returns-in-Ok-Accepted-clause-ok
returns-in-Ok-Accepted-clause-ok c =
    let old = c.args.self.now in
    let mid = c.take_in.new.self in
    let is : c.as_slice-bytes.result.now ≡ body_of c.args.request.now = c.as_slice-bytes.ensures ∙ c.body.ensures in
    acknowledged c.args.hand old mid c.note_taken.new.self c.args.request.now c.answer_status.new.response c.may_write.result c.is_encoded.result
    c.if-not-may_write.false c.may_write.ensures c.if-is_encoded.false c.is_encoded.ensures
    (accepted (piece_of_bytes c.args.hand (body_of c.args.request.now)) old mid
    (subst (λ (b : List ℕ). IsAdmittedOrKnown IsSpared (piece_of_bytes c.args.hand b) Accepted old mid) is
    (subst (λ (a : Admission). IsAdmittedOrKnown IsSpared (piece_of_bytes c.args.hand c.as_slice-bytes.result.now) a old mid) c.in-Ok-Accepted.field-0-is c.in-Ok-Accepted.ensures.ok)))
    c.answer_status.ensures

pub returns-in-Ok-OverLimit-clause-ok : goal.returns-in-Ok-OverLimit-clause-ok
returns-in-Ok-OverLimit-clause-ok c =
    let old = c.args.self.now in
    let mid = c.take_in.new.self in
    let is : c.as_slice-bytes.result.now ≡ body_of c.args.request.now = c.as_slice-bytes.ensures ∙ c.body.ensures in
    let over = too_much (piece_of_bytes c.args.hand (body_of c.args.request.now)) c.in-Ok-OverLimit.question old mid
    (subst (λ (b : List ℕ). IsAdmittedOrKnown IsSpared (piece_of_bytes c.args.hand b) (OverLimit c.in-Ok-OverLimit.question) old mid) is
    (subst (λ (a : Admission). IsAdmittedOrKnown IsSpared (piece_of_bytes c.args.hand c.as_slice-bytes.result.now) a old mid) c.in-Ok-OverLimit.field-0-is c.in-Ok-OverLimit.ensures.ok)) in
    too_costly_if c.answer_over_limit.result c.args.hand old mid c.note_over_limit.new.self c.args.request.now c.answer_over_limit.new.response c.may_write.result c.is_encoded.result
    c.if-not-may_write.false c.may_write.ensures c.if-is_encoded.false c.is_encoded.ensures
    over.0 over.1 c.answer_over_limit.ensures

pub returns-in-Err-clause-ok : goal.returns-in-Err-clause-ok
returns-in-Err-clause-ok c =
    let is : c.as_slice-bytes.result.now ≡ body_of c.args.request.now = c.as_slice-bytes.ensures ∙ c.body.ensures in
    turned_down_if c.answer_refusal.result c.args.hand c.args.self.now c.take_in.new.self c.refuse.new.self c.args.request.now c.answer_refusal.new.response c.may_write.result c.is_encoded.result c.in-Err.why
    c.if-not-may_write.false c.may_write.ensures c.if-is_encoded.false c.is_encoded.ensures
    c.in-Err.ensures.err
    (subst (λ (b : List ℕ). IsLeftOut (piece_of_bytes c.args.hand b) c.in-Err.why) is c.in-Err.ensures.left_out)
    c.answer_refusal.ensures

pub returns-in-Some-clause-ok : goal.returns-in-Some-clause-ok
returns-in-Some-clause-ok c =
    without_room_if c.answer_no_room.result c.args.hand c.args.self.now c.note_no_room.new.self c.args.request.now c.answer_no_room.new.response c.may_write.result c.is_encoded.result
    c.if-not-may_write.false c.may_write.ensures c.if-is_encoded.false c.is_encoded.ensures c.answer_no_room.ensures
