-- Calls that are counted, and the one that may be held back.
use Rattle.std.proofs.Common.{◌≡◌, ℕ, ◌≤◌, ◌<◌, true, false, List, [], ◌∷◌, length, refl, sym, ap, subst, arith, ◌∙◌, Option, Some, None, IfSome}
use Rattle.http.specs.declared.request.Request.{Request}
use Rattle.http_server.specs.declared.connection.Connection.{Connection}
use Rattle.http_server.specs.declared.response.Response.{Response}
use Rattle.http_server.specs.Connection.{history}
use Rattle.http_server.specs.Exchange.{Call, Chain}
use Rattle.cue_rounds.specs.declared.rounds.InRound.{InRound}
use Rattle.cue_rounds.specs.declared.wait.Wait.{Wait}
use Rattle.cue_rounds.specs.Waits.{IsCounted, MayHold}

module _ {S : Type 0} (answers : S → Request (List ℕ) → Response → S → Type 0) where
  -- the same calls of what a state holds
  pub chain_inner : (calls : List Call) (a b : InRound S) → Chain (IsCounted answers) a calls b → Chain answers a.inner calls b.inner
  chain_inner [] a b x = ap (λ (s : InRound S). s.inner) x
  chain_inner (k ∷ calls) a b x = (x.0.inner, x.1.answered, chain_inner calls x.0 b x.2)

  pub chain_between : (calls : List Call) (a b c d : S) → b ≡ a → Chain answers b calls c → d ≡ c → Chain answers a calls d
  chain_between calls a b c d e x f = subst (λ t. Chain answers a calls t) (sym f) (subst (λ t. Chain answers t calls c) e x)

  grows : (calls : List Call) (a b : InRound S) → Chain (IsCounted answers) a calls b → 2 ≤ a.calls → 2 ≤ b.calls
  grows [] a b x two = subst (λ (s : InRound S). 2 ≤ s.calls) (sym x) two
  grows (k ∷ calls) a b x two = grows calls x.0 b x.2 (omega (arith, x.1.counted, two))

  one_call : (calls : List Call) (a b : InRound S) (wait : Wait) → Chain (IsCounted answers) a calls b → a.calls ≡ 0 → b.calls ≡ 1 → b.wait ≡ Some wait
      → (call : Call) × (calls ≡ call ∷ []) × (call.1.status ≡ 304)
  one_call [] a b wait x none one waits =
      let e : b.calls ≡ a.calls = ap (λ (s : InRound S). s.calls) x in
      absurd (omega (arith, e, none, one))
  one_call (k ∷ []) a b wait x none one waits =
      let e : b.wait ≡ x.0.wait = ap (λ (s : InRound S). s.wait) x.2 in
      let w : (k.1.status ≡ 304) × (wait.seconds ≤ 3600) =
      subst (λ (o : Option Wait). IfSome o (λ v. (k.1.status ≡ 304) × (v.seconds ≤ 3600))) (sym e ∙ waits) x.1.waits in
      (k, refl, w.0)
  one_call (k ∷ (l ∷ calls)) a b wait x none one waits =
      let two : 2 ≤ b.calls = grows calls x.2.0 b x.2.2 (omega (arith, x.1.counted, x.2.1.counted, none)) in
      absurd (omega (arith, two, one))

  nothing : (xs : List ℕ) → (0 < length xs → false ≡ true) → xs ≡ []
  nothing [] h = refl
  nothing (x ∷ xs) h = let w : false ≡ true = h (omega arith) in cc

  -- where nothing waited to be sent, and one call was counted that may wait, its answer may be held back
  pub may_hold : (calls : List Call) (a b : InRound S) (old : Connection) (result : Option Wait)
      → Chain (IsCounted answers) a calls b → a.calls ≡ 0
      → IfSome result (λ wait. (b.calls ≡ 1) × (b.wait ≡ Some wait))
      → (0 < length (history old).pending → false ≡ true)
      → IfSome result (λ _. MayHold calls old)
  may_hold calls a b old None x none one free = tt
  may_hold calls a b old (Some wait) x none one free =
      let k = one_call calls a b wait x none one.0 one.1 in
      record { call = k.0; one = k.1; nothing_new = k.2; nothing_waits = nothing (history old).pending free }
