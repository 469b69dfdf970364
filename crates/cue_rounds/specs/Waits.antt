-- Which answer may be held back: nothing is lost with it.
use Rattle.std.specs.Prelude.{◌≡◌, ℕ, ◌+◌, ◌-◌, ◌^◌, ◌≤◌, min, List, [], ◌∷◌, IfSome}
use Rattle.http.specs.declared.request.Request.{Request}
use Rattle.http_server.specs.declared.connection.Connection.{Connection}
use Rattle.http_server.specs.declared.response.Response.{Response}
use Rattle.http_server.specs.Connection.{history}
use Rattle.http_server.specs.Exchange.{Call}
use Rattle.cue_rounds.specs.declared.rounds.InRound.{InRound}

-- a call, which is counted, and waits only where nothing is new
pub record IsCounted {S : Type 0} (answers : S → Request (List ℕ) → Response → S → Type 0)
    (old : InRound S) (request : Request (List ℕ)) (response : Response) (new : InRound S) : Type 0 where
  pub answered : answers old.inner request response new.inner
  pub counted : new.calls ≡ min (old.calls + 1) (2 ^ 64 - 1)
  pub waits : IfSome new.wait (λ wait. (response.status ≡ 304) × (wait.seconds ≤ 3600))

-- All that the connection has not sent is the answer of one call, that nothing is new.
pub record MayHold (calls : List Call) (old : Connection) : Type 0 where
  pub call : Call
  pub one : calls ≡ call ∷ []
  pub nothing_new : call.1.status ≡ 304
  pub nothing_waits : (history old).pending ≡ []
