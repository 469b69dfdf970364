-- What a service answers behind its doors.
use Rattle.std.specs.Prelude.{◌≡◌, ◌⊎◌, ℕ, List}
use Rattle.http.specs.declared.request.Request.{Request}
use Rattle.http_server.specs.declared.response.Response.{Response}
use Rattle.cue_doors.specs.declared.doors.DoorRefusal.{DoorRefusal}
use Rattle.cue_doors.specs.declared.guarded.Guarded.{Guarded}
use Rattle.cue_doors.specs.declared.keys.KeyRefusal.{KeyRefusal}
use Rattle.cue_doors.specs.Answers.{IsKeyAnswer}
use Rattle.cue_doors.specs.Counts.{IsCounted}
use Rattle.cue_doors.specs.Requests.{IsBarred}
use Rattle.cue_doors.specs.Tokens.{IsLocked}

-- it has the same doors and the same keys
abbrev pub IsSameGuard : {S : Type 0} → Guarded S → Guarded S → Type 0
IsSameGuard old new = (new.doors ≡ old.doors) × (new.keys ≡ old.keys)

-- only the service behind changes
abbrev pub ChangesInner : {S : Type 0} → Guarded S → Guarded S → Type 0
ChangesInner old new = new ≡ record old { inner = new.inner }

-- only the counts change
abbrev pub ChangesCounts : {S : Type 0} → Guarded S → Guarded S → Type 0
ChangesCounts old new = new ≡ record old { refusals = new.refusals }

-- a request for another host, or of a foreign page, is answered 403
abbrev pub IsTurnedAway : {S : Type 0} → Guarded S → Request (List ℕ) → Response → Type 0
IsTurnedAway guard request response =
    (bar : DoorRefusal) × IsBarred guard.doors request bar × (response.status ≡ 403)

-- the doors let it in
abbrev pub IsLetIn : {S : Type 0} → Guarded S → Request (List ℕ) → Type 0
IsLetIn guard request = (bar : DoorRefusal) → ¬ IsBarred guard.doors request bar

-- a request whose token is lacking, or may not write, is answered 401 or 403, and counted
abbrev pub IsLockedOut : {S : Type 0} → Guarded S → Request (List ℕ) → Response → Guarded S → Type 0
IsLockedOut old request response new =
    (bar : KeyRefusal) × IsLocked old.keys request bar × IsKeyAnswer bar response
    × IsCounted bar old.refusals new.refusals

-- the keys let it in
abbrev pub IsUnlocked : {S : Type 0} → Guarded S → Request (List ℕ) → Type 0
IsUnlocked guard request = (bar : KeyRefusal) → ¬ IsLocked guard.keys request bar

-- A request that the doors bar changes nothing, and one that the keys bar a count alone. The service
-- behind answers each other one. The doors come first.
abbrev pub Guards : {S : Type 0} → (S → Request (List ℕ) → Response → S → Type 0)
    → Guarded S → Request (List ℕ) → Response → Guarded S → Type 0
Guards answers old request response new =
    (IsTurnedAway old request response × (new ≡ old))
    ⊎ (IsLetIn old request × IsLockedOut old request response new × ChangesCounts old new)
    ⊎ (IsLetIn old request × IsUnlocked old request × ChangesInner old new
    × answers old.inner request response new.inner)
