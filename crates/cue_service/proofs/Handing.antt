-- What is answered to one who hands something in, and to others.
use Rattle.std.proofs.Common.{◌≡◌, ◌↔◌, ◌⊎◌, ℕ, List, [], ◌∷◌, Bool, true, false, IsTrue, Result, Ok, Err, OnOk, refl, sym, ◌∙◌, inl, inr}
use Rattle.std.proofs.lemmas.Bool.{false≢true}
use Rattle.http.specs.declared.request.Request.{Request}
use Rattle.http.specs.Request.{body_of}
use Rattle.http_server.specs.declared.response.Response.{Response}
use Rattle.http_server.specs.Response.{IsResponse}
use Rattle.cue_lattice.specs.World.{Piece}
use Rattle.cue_lattice.specs.declared.refusal.Refusal.{Refusal}
use Rattle.cue_service.specs.declared.desk.SiteCore.{SiteCore}
use Rattle.cue_service.specs.declared.route.PieceKind.{PieceKind}
use Rattle.cue_service.specs.declared.route.PieceKind.TheVariants as hands
use Rattle.cue_service.specs.declared.standing.Standing.{Standing}
use Rattle.cue_service.specs.Access.{MayWrite}
use Rattle.cue_service.specs.Answering.{IsHandedToSite, IsPieceTaken, IsTagKnown, IsSpared}
use Rattle.cue_service.specs.Limits.{CostsTooMuch}
use Rattle.cue_service.specs.Refusals.{IsLeftOut, bytes_in}
use Rattle.cue_service.specs.Requests.{HasEncodedBody, piece_of_bytes}
use Rattle.cue_service.specs.Statuses.{HasHead, plain_text, status_of_refusal, type_field}

is_none : {P : Type 0} (b : Bool) → b ≡ false → (IsTrue b ↔ P) → P → ⊥
is_none b none e p = false≢true (sym none ∙ e.1 p)

noted : (piece : Piece) (old mid : SiteCore) (standing : Standing) → IsPieceTaken piece old mid ⊎ IsTagKnown piece old mid
    → IsPieceTaken piece old (record mid { standing = standing }) ⊎ IsTagKnown piece old (record mid { standing = standing })
noted piece old mid standing (inl taken) = inl (record {
  rules = taken.rules;
  acceptable = taken.acceptable;
  fits = taken.fits;
  adds = taken.adds;
  valid = taken.valid;
  waits = taken.waits;
  same_run = taken.same_run;
  listed = taken.listed;
})
noted piece old mid standing (inr known) = inr (record {
  acceptable = known.acceptable;
  fits = known.fits;
  adds = known.adds;
  valid = known.valid;
  kept = known.kept;
  same = record { rules = known.same.rules; table = known.same.table; waits = known.same.waits; pieces = known.same.pieces };
})

pub acknowledged :
    (hand : PieceKind) (old mid : SiteCore) (standing : Standing) (request : Request (List ℕ)) (response : Response) (allowed encoded : Bool)
    → allowed ≡ true → (IsTrue allowed ↔ MayWrite old.rules.token request) → encoded ≡ false → (IsTrue encoded ↔ HasEncodedBody request)
    → IsPieceTaken (piece_of_bytes hand (body_of request)) old mid ⊎ IsTagKnown (piece_of_bytes hand (body_of request)) old mid
    → IsResponse 204 [] [] response → IsHandedToSite hand old request response (record mid { standing = standing })
acknowledged hand old mid standing request response allowed encoded may write plain coded done is =
    inr (inl (record {
      lets = write.0 may;
      plain = is_none encoded plain coded;
      done = noted (piece_of_bytes hand (body_of request)) old mid standing done;
      answer = is;
    }))

pub turned_down_if :
    {X E : Type 0} (r : Result X E) (hand : PieceKind) (old mid : SiteCore) (standing : Standing) (request : Request (List ℕ)) (response : Response) (allowed encoded : Bool) (why : Refusal)
    → allowed ≡ true → (IsTrue allowed ↔ MayWrite old.rules.token request) → encoded ≡ false → (IsTrue encoded ↔ HasEncodedBody request)
    → IsSpared old mid → IsLeftOut (piece_of_bytes hand (body_of request)) why
    → OnOk r (HasHead (status_of_refusal why.kind) (type_field plain_text ∷ []) response) → OnOk r (IsHandedToSite hand old request response (record mid { standing = standing }))
turned_down_if (Err e) hand old mid standing request response allowed encoded why may write plain coded spared left is = tt
turned_down_if (Ok x) hand old mid standing request response allowed encoded why may write plain coded spared left is =
    inr (inr (inl (record {
      lets = write.0 may;
      plain = is_none encoded plain coded;
      same = record { rules = spared.rules; table = spared.table; waits = spared.waits; pieces = spared.pieces };
      why = why;
      refused = left;
      answer = is;
    })))

pub without_room_if :
    {X E : Type 0} (r : Result X E) (hand : PieceKind) (old : SiteCore) (standing : Standing) (request : Request (List ℕ)) (response : Response) (allowed encoded : Bool)
    → allowed ≡ true → (IsTrue allowed ↔ MayWrite old.rules.token request) → encoded ≡ false → (IsTrue encoded ↔ HasEncodedBody request)
    → OnOk r (HasHead 507 (type_field plain_text ∷ []) response) → OnOk r (IsHandedToSite hand old request response (record old { standing = standing }))
without_room_if (Err e) hand old standing request response allowed encoded may write plain coded is = tt
without_room_if (Ok x) hand old standing request response allowed encoded may write plain coded is =
    inr (inr (inr (inl (record {
      lets = write.0 may;
      plain = is_none encoded plain coded;
      same = record { rules = refl; table = refl; waits = refl; pieces = refl };
      answer = is;
    }))))

pub too_costly_if :
    {X E : Type 0} (r : Result X E) (hand : PieceKind) (old mid : SiteCore) (standing : Standing) (request : Request (List ℕ)) (response : Response) (allowed encoded : Bool)
    → allowed ≡ true → (IsTrue allowed ↔ MayWrite old.rules.token request) → encoded ≡ false → (IsTrue encoded ↔ HasEncodedBody request)
    → IsSpared old mid → CostsTooMuch old.rules.limit old.board (piece_of_bytes hand (body_of request))
    → OnOk r (HasHead 413 (type_field plain_text ∷ []) response) → OnOk r (IsHandedToSite hand old request response (record mid { standing = standing }))
too_costly_if (Err e) hand old mid standing request response allowed encoded may write plain coded spared costs is = tt
too_costly_if (Ok x) hand old mid standing request response allowed encoded may write plain coded spared costs is =
    inr (inr (inr (inr (record {
      lets = write.0 may;
      plain = is_none encoded plain coded;
      same = record { rules = spared.rules; table = spared.table; waits = spared.waits; pieces = spared.pieces };
      costs = costs;
      answer = is;
    }))))

pub same_bytes : (hand : PieceKind) (bytes : List ℕ) → bytes_in (piece_of_bytes hand bytes) ≡ bytes
same_bytes hands.Text bytes = refl
same_bytes hands.State bytes = refl
