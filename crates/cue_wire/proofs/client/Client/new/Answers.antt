use Rattle.std.proofs.Common.{◌≡◌, ◌+◌, [], ◌∷◌, ◌++◌, take, All, ap, sym, ◌∙◌, subst}
use Rattle.std.proofs.lemmas.List.{take_more}
use Rattle.std.proofs.lemmas.List.Elements.{All-push}
use Rattle.cue_wire.specs.declared.request.Request as asked
use Rattle.cue_wire.specs.Clients.{IsSendable}
use Rattle.cue_wire.proofs.Exchanges.{sends_more}
use Rattle.cue_wire.proofs.client.Client.new.Goals as goal

pub loop-request-preserved : goal.loop-request-preserved
loop-request-preserved c =
    let i = c.loop-request.request-index in
    let requests = c.args.requests.now in
    let request = c.request-item.result in
    let more : take (i + 1) requests ≡ take i requests ++ request ∷ [] =
    take_more requests i request c.loop-request-test.true ∙ sym (ap (λ (y : asked.Request). take i requests ++ y ∷ []) c.request-item.is) in
    record {
      made = sends_more (take i requests) (take (i + 1) requests) request c.loop-request.outgoing.items c.push_frame.new.out.items more c.loop-request.invariant.made c.in_ok-push_frame.ensures.ok.0;
      fits = subst (All IsSendable) (sym more) (All-push IsSendable (take i requests) request c.loop-request.invariant.fits c.in_ok-push_frame.ensures.ok.1);
    }
