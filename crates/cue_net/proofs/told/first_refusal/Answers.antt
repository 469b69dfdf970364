use Rattle.std.proofs.Common.{◌≡◌, ℕ, ◌+◌, [], ◌∷◌, ◌++◌, take, ap, sym, ◌∙◌, subst, arith, Vec, Global}
use Rattle.std.proofs.lemmas.List.{take_more, take_all, map-append, length-map, length-take-le}
use Rattle.cue_wire.specs.Clients.{all_items}
use Rattle.cue_net.specs.Inner.Told.{IsFound, first_of}
use Rattle.cue_net.proofs.Findings.{found_more}
use Rattle.cue_net.proofs.told.first_refusal.Goals as goal

pub loop-reply-preserved : goal.loop-reply-preserved
loop-reply-preserved c =
    let i = c.loop-reply.reply-index in
    let replies = c.args.replies.now in
    let reply = c.reply-item.result in
    let bytes = c.deref.result.now in
    let before = all_items (take i replies) in
    let more : take (i + 1) replies ≡ take i replies ++ reply ∷ [] =
    take_more replies i reply c.loop-reply-test.true ∙ sym (ap (λ (y : Vec ℕ Global). take i replies ++ y ∷ []) c.reply-item.is) in
    let all : all_items (take (i + 1) replies) ≡ before ++ bytes ∷ [] =
    ap all_items more ∙ map-append (λ (v : Vec ℕ Global). v.items) (take i replies) (reply ∷ []) ∙ ap (λ b. before ++ b ∷ []) (sym c.deref.ensures.value) in
    record {
      found = subst (λ f. IsFound (all_items (take (i + 1) replies)) f) (sym c.first_of-first.ensures) (subst (λ rs. IsFound rs (first_of c.loop-reply.first c.in_ok-found.found (c.loop-reply.number + 1))) (sym all)
          (found_more before bytes c.loop-reply.first c.in_ok-found.found (c.loop-reply.number + 1) c.loop-reply.invariant.found c.in_ok-found.ensures.says
          (omega (arith, c.loop-reply.invariant.counted, length-map (take i replies) (λ (v : Vec ℕ Global). v.items), length-take-le i replies (omega (arith, c.loop-reply-test.true))))));
      counted = omega (arith, c.loop-reply.invariant.counted);
    }

pub returns-clause-found : goal.returns-clause-found
returns-clause-found c =
    subst (λ rs. IsFound (all_items rs) c.loop-reply.first) (take_all c.loop-reply.reply-index c.args.replies.now (omega (arith, c.loop-reply-test.false))) c.loop-reply.invariant.found
