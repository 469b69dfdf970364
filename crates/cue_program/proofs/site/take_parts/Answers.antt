use Rattle.std.proofs.Common.{ℕ, List, Option, Bor, subst}
use Rattle.std.specs.Option.{option_map}
use Rattle.cue_wire.proofs.Connections.{err_on}
use Rattle.cue_program.specs.inner.Texts.{HasTakenParts}
use Rattle.cue_program.proofs.Texts.{submitted_more, submitted_not, submitted_all}
use Rattle.cue_program.proofs.site.take_parts.Goals as goal

pub loop-rest-preserved : goal.loop-rest-preserved
loop-rest-preserved c all h =
    let P : Option (Bor (List ℕ)) → Type 0 = λ rest. HasTakenParts all c.loop-rest.site c.loop-rest.number (option_map (λ bytes. bytes.now) rest) in
    submitted_more all c.in-Some.bytes.now c.first_part.result.0.now c.loop-rest.site c.submit.new.site
    c.loop-rest.number c.saturating_add-number.result
    (option_map (λ rest. rest.now) c.first_part.result.1) (subst P c.in-Some.is (c.loop-rest.invariant all h)) c.first_part.ensures.part
    c.saturating_add-number.ensures c.in_ok-submit.ensures.legal c.in_ok-submit.ensures.adds c.in_ok-submit.ensures.valid

pub returns-in_err-submit-clause-refused : goal.returns-in_err-submit-clause-refused
returns-in_err-submit-clause-refused c all h =
    let P : Option (Bor (List ℕ)) → Type 0 = λ rest. HasTakenParts all c.loop-rest.site c.loop-rest.number (option_map (λ bytes. bytes.now) rest) in
    err_on c.from_residual.result c.in_err-submit.field-0.0 _ c.from_residual.ensures.1
    (submitted_not all c.in-Some.bytes.now c.first_part.result.0.now c.loop-rest.site c.loop-rest.number c.saturating_add-number.result
    (option_map (λ rest. rest.now) c.first_part.result.1) c.in_err-submit.field-0.0 (subst P c.in-Some.is (c.loop-rest.invariant all h)) c.first_part.ensures.part
    c.saturating_add-number.ensures c.in_err-submit.ensures.refused)

pub returns-clause-holds : goal.returns-clause-holds
returns-clause-holds c all h =
    let P : Option (Bor (List ℕ)) → Type 0 = λ rest. HasTakenParts all c.loop-rest.site c.loop-rest.number (option_map (λ bytes. bytes.now) rest) in
    submitted_all all c.loop-rest.site c.loop-rest.number (subst P c.in_default.is (c.loop-rest.invariant all h))
