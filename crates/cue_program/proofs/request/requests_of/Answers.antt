use Rattle.std.proofs.Common.{◌≡◌, ℕ, List, [], ◌∷◌, ◌++◌, Some, ap, refl, subst, sym, ◌∙◌}
use Rattle.std.specs.Prelude.{slice_get}
use Rattle.std.proofs.lemmas.Bool.{both_ways}
use Rattle.std.proofs.lemmas.Result.{IfOk-weaker, IfErr-weaker}
use Rattle.cue_wire.specs.declared.request.Request as requests
use Rattle.cue_wire.specs.declared.request.Request.TheVariants as asked
use Rattle.std.specs.Prelude.{Vec}
use Rattle.std.specs.Global.{Global}
use Rattle.cue_program.specs.Inputs.{stream}
use Rattle.cue_program.specs.Requests.{AreRequests, IsUnsentOn}
use Rattle.cue_program.specs.inner.Sending.{AreTextRequests, IsPartUnsent}
use Rattle.cue_program.proofs.Requests.{state_sent, texts_sent, texts_unsent}
use Rattle.cue_program.proofs.request.requests_of.Goals as goal

pub returns-then-not-begins_a_state-clause-requests : goal.returns-then-not-begins_a_state-clause-requests
returns-then-not-begins_a_state-clause-requests c =
    let bytes = c.args.bytes.items in
    IfOk-weaker c.requests_of_texts.result (λ (asked : Vec requests.Request Global). AreTextRequests c.deref-then-not-begins_a_state.result.now asked.items) (λ (asked : Vec requests.Request Global). AreRequests (stream (Some bytes)) asked.items)
    (λ asked h. texts_sent bytes asked.items
    (λ is. both_ways c.begins_a_state.result c.if-not-begins_a_state.true (c.begins_a_state.ensures.1 (subst (λ (b : List ℕ). slice_get b 0 ≡ Some 254) (sym c.deref.ensures.value) is)))
    (subst (λ (b : List ℕ). AreTextRequests b asked.items) c.deref-then-not-begins_a_state.ensures.value h))
    c.requests_of_texts.ensures.requests

pub returns-then-not-begins_a_state-clause-stop : goal.returns-then-not-begins_a_state-clause-stop
returns-then-not-begins_a_state-clause-stop c =
    let bytes = c.args.bytes.items in
    IfErr-weaker c.requests_of_texts.result (IsPartUnsent c.deref-then-not-begins_a_state.result.now) (IsUnsentOn (stream (Some bytes)))
    (λ stop h. texts_unsent bytes stop
    (λ is. both_ways c.begins_a_state.result c.if-not-begins_a_state.true (c.begins_a_state.ensures.1 (subst (λ (b : List ℕ). slice_get b 0 ≡ Some 254) (sym c.deref.ensures.value) is)))
    (subst (λ (b : List ℕ). IsPartUnsent b stop) c.deref-then-not-begins_a_state.ensures.value h))
    c.requests_of_texts.ensures.stop

pub returns-clause-requests : goal.returns-clause-requests
returns-clause-requests c =
    let bytes = c.args.bytes.items in
    let first = subst (λ (b : List ℕ). slice_get b 0 ≡ Some 254) c.deref.ensures.value (c.begins_a_state.ensures.0 c.if-not-begins_a_state.false) in
    let one = c.in_ok-push.ensures.items ∙ ap (λ (rs : List requests.Request). rs ++ asked.State c.args.bytes ∷ []) c.new-requests.ensures.items in
    subst (λ (rs : List requests.Request). AreRequests (stream (Some bytes)) rs) (sym one) (state_sent bytes (asked.State c.args.bytes) first refl)
