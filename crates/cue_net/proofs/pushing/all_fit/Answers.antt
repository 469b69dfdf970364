use Rattle.std.proofs.Common.{◌≡◌, ◌↔◌, ◌+◌, [], ◌∷◌, ◌++◌, take, All, Bool, true, IsTrue, refl, ap, sym, ◌∙◌, subst, arith}
use Rattle.std.proofs.lemmas.List.{take_more, take_all}
use Rattle.std.proofs.lemmas.List.Elements.{All-push}
use Rattle.cue_wire.specs.declared.request.Request as asked
use Rattle.cue_wire.specs.Clients.{IsSendable}
use Rattle.cue_net.proofs.pushing.all_fit.Goals as goal

tested : (b : Bool) (P : Type 0) → IsTrue b ↔ P → b ≡ true → P
tested b P is so = is.0 so

pub loop-request-preserved : goal.loop-request-preserved
loop-request-preserved c =
    let i = c.loop-request.request-index in
    let requests = c.args.requests.now in
    let request = c.request-item.result in
    let more : take (i + 1) requests ≡ take i requests ++ request ∷ [] =
    take_more requests i request c.loop-request-test.true ∙ sym (ap (λ (y : asked.Request). take i requests ++ y ∷ []) c.request-item.is) in
    record {
      fits = subst (All IsSendable) (sym more) (All-push IsSendable (take i requests) request c.loop-request.invariant.fits
          (tested c.fits.result (IsSendable request) c.fits.ensures c.if-not-fits.false));
    }

pub returns : goal.returns
returns c =
    let all = take_all c.loop-request.request-index c.args.requests.now (omega (arith, c.loop-request-test.false)) in
    (λ _. subst (All IsSendable) all c.loop-request.invariant.fits, λ _. refl)
