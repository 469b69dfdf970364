use Rattle.std.proofs.Common.{ℕ, ◌+◌, ◌-◌, ◌^◌, min, List, Option, Bor, ap, subst, sym, ◌∙◌, inr, ⊎_elim}
use Rattle.std.specs.Option.{option_map}
use Rattle.cue_wire.specs.declared.request.Request as requests
use Rattle.cue_wire.proofs.Connections.{err_on}
use Rattle.cue_program.proofs.Requests.{Sends, sends_none, sends_more, sends_not, sends_all}
use Rattle.cue_program.proofs.request.requests_of_texts.Goals as goal

pub loop-rest-init : goal.loop-rest-init
loop-rest-init c = rw c.new-requests.ensures.items (sends_none c.args.bytes.now)

pub loop-rest-preserved : goal.loop-rest-preserved
loop-rest-preserved c =
    let P : Option (Bor (List ℕ)) → Type 0 = λ rest. Sends c.args.bytes.now c.loop-rest.requests.items (option_map (λ bytes. bytes.now) rest) in
    let after = option_map (λ rest. rest.now) c.first_part.result.1 in
    subst (λ (rs : List requests.Request). Sends c.args.bytes.now rs after) (sym c.in_ok-push.ensures.items)
    (sends_more c.args.bytes.now c.in-Some.bytes.now c.first_part.result.0.now c.loop-rest.requests.items c.in_ok-request.request after
    (subst P c.in-Some.is c.loop-rest.invariant) c.first_part.ensures.part c.in_ok-request.ensures.fits c.in_ok-request.ensures.request)

pub returns-in_err-request-clause-stop : goal.returns-in_err-request-clause-stop
returns-in_err-request-clause-stop c =
    let P : Option (Bor (List ℕ)) → Type 0 = λ rest. Sends c.args.bytes.now c.loop-rest.requests.items (option_map (λ bytes. bytes.now) rest) in
    err_on c.from_residual.result c.in_err-request.field-0.0 _ c.from_residual.ensures.1 (⊎_elim
    (λ fault. sends_not c.args.bytes.now c.in-Some.bytes.now c.first_part.result.0.now c.loop-rest.requests.items c.saturating_add-number.result
    (option_map (λ rest. rest.now) c.first_part.result.1) c.in_err-request.field-0.0 (subst P c.in-Some.is c.loop-rest.invariant) c.first_part.ensures.part
    (c.saturating_add-number.ensures ∙ ap (λ n. min (n + 1) (2 ^ 64 - 1)) (c.len.ensures ∙ c.loop-rest.requests.ok.0)) fault)
    (λ memory. inr memory)
    c.in_err-request.ensures.stop)

pub returns-clause-requests : goal.returns-clause-requests
returns-clause-requests c =
    let P : Option (Bor (List ℕ)) → Type 0 = λ rest. Sends c.args.bytes.now c.loop-rest.requests.items (option_map (λ bytes. bytes.now) rest) in
    sends_all c.args.bytes.now c.loop-rest.requests.items (subst P c.in_default.is c.loop-rest.invariant)
