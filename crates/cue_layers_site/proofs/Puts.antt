-- What a name says is replaced.
use Rattle.std.proofs.Common.{ℕ, List, [], ◌∷◌, Result, OnOk, sym, subst}
use Rattle.http.specs.declared.request.Request.{Request}
use Rattle.http.specs.Request.{body_of}
use Rattle.http_server.specs.declared.response.Response.{Response}
use Rattle.cue_lattice.specs.World.{Piece}
use Rattle.cue_policies.specs.declared.kind.LayerKind.{LayerKind}
use Rattle.cue_replica.specs.Language.{Table}
use Rattle.cue_layers.specs.declared.layer.Layer.{Layer}
use Rattle.cue_layers.specs.Join.{IsOnePut}
use Rattle.cue_layers.specs.Puts.{HasElement}
use Rattle.cue_layers_site.specs.declared.store.LayersStore.{LayersStore}
use Rattle.cue_layers_site.specs.Answering.{IsBodyPiece, IsBodyPut, IsPutDone}
use Rattle.cue_layers_site.specs.Conditions.{IsMet}
use Rattle.cue_layers_site.specs.Inner.Changes.{IsReplaced}
use Rattle.cue_layers_site.specs.Requests.{IsNameIn}
use Rattle.cue_layers_site.specs.Views.{StaysSmall}
use Rattle.cue_layers_site.proofs.Outcomes.{on_ok}

module _ {D : Type 0} (seen : D → List ℕ) (may_leave : D → List ℕ → Type 0) where
  replaced : (kind : LayerKind) (name : List ℕ) (pieces : List Piece) (next : List Layer) (revision : ℕ) (old new : LayersStore D) (request : Request (List ℕ)) (response : Response)
      → IsOnePut old.map kind name pieces next revision → IsNameIn kind request name → IsMet old.map kind name request → IsReplaced seen may_leave kind name next old response new → IsPutDone seen may_leave kind pieces old request response new
  replaced kind name pieces next revision old new request response put names met done = record {
    name = name;
    names = names;
    met = met;
    revision = revision;
    put = subst (λ (m : List Layer). IsOnePut old.map kind name pieces m revision) (sym done.map) put;
    layer = done.answer.0;
    has = subst (λ (m : List Layer). HasElement m done.answer.0) (sym done.map) done.answer.1;
    is_of = done.answer.2;
    more = done.more;
    added = done.added;
    answer = done.answer.3;
  }

  -- a removal
  pub put_done : {X E : Type 0} (r : Result X E) (kind : LayerKind) (name : List ℕ) (pieces : List Piece) (next : List Layer) (revision : ℕ) (old new : LayersStore D) (request : Request (List ℕ)) (response : Response)
      → IsOnePut old.map kind name pieces next revision → IsNameIn kind request name → IsMet old.map kind name request
      → OnOk r (IsReplaced seen may_leave kind name next old response new) → OnOk r (IsPutDone seen may_leave kind pieces old request response new)
  put_done r kind name pieces next revision old new request response put names met done =
      on_ok r (λ h. replaced kind name pieces next revision old new request response put names met h) done

  -- a put of a body
  pub body_put : {X E : Type 0} (r : Result X E) (kind : LayerKind) (name : List ℕ) (piece : Piece) (next : List Layer) (revision : ℕ) (commons : Table) (old new : LayersStore D) (request : Request (List ℕ)) (response : Response)
      → IsOnePut old.map kind name (piece ∷ []) next revision → IsNameIn kind request name → IsMet old.map kind name request → IsBodyPiece (body_of request) piece → StaysSmall commons old.map next
      → OnOk r (IsReplaced seen may_leave kind name next old response new) → OnOk r (IsBodyPut seen may_leave kind commons old request response new)
  body_put r kind name piece next revision commons old new request response put names met body small done =
      on_ok r (λ h. (
        piece,
        body,
        replaced kind name (piece ∷ []) next revision old new request response put names met h,
        subst (λ (m : List Layer). StaysSmall commons old.map m) (sym h.map) small,
      )) done
