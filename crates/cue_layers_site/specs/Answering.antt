-- What requests of layers are answered, and what they do to a store.
use Rattle.std.specs.Prelude.{◌≡◌, ◌≢◌, ◌⊎◌, ◌++◌, ℕ, Bool, true, false, List, [], ◌∷◌}
use Rattle.cue_lattice.specs.World.{Piece, text, state}
use Rattle.cue_policies.specs.declared.kind.LayerKind.{LayerKind}
use Rattle.cue_replica.specs.Language.{Table}
use Rattle.http.specs.declared.request.Request.{Request}
use Rattle.http.specs.Request.{body_of}
use Rattle.http_server.specs.declared.response.Response.{Response}
use Rattle.http_server.specs.Response.{IsResponse}
use Rattle.cue_layers.specs.declared.layer.Layer.{Layer}
use Rattle.cue_layers.specs.Bytes.{IsLayersBytes}
use Rattle.cue_layers.specs.Maps.{IsJoin}
use Rattle.cue_layers.specs.Join.{IsOnePut}
use Rattle.cue_layers.specs.Layers.{key, key_of}
use Rattle.cue_layers.specs.Puts.{HasElement}
use Rattle.cue_layers_site.specs.declared.access.WriteAccess.{WriteAccess}
use Rattle.cue_layers_site.specs.declared.access.WriteAccess.TheVariants.{Granted}
use Rattle.cue_layers_site.specs.declared.refusal.ChangeRefusal.{ChangeRefusal}
use Rattle.cue_layers_site.specs.declared.route.LayersRoute.{LayersRoute}
use Rattle.cue_layers_site.specs.declared.route.LayersRoute.TheVariants.{Put, Remove, Names, Show, View, Sync, Join}
use Rattle.cue_layers_site.specs.declared.store.LayersStore.{LayersStore}
use Rattle.cue_layers_site.specs.Conditions.{IsMet}
use Rattle.cue_layers_site.specs.Refusals.{IsRefusalAnswer, IsJoinReason, IsPutReason, IsRemoveReason}
use Rattle.cue_layers_site.specs.Requests.{IsNameIn}
use Rattle.cue_layers_site.specs.Statuses.{layer_tag_field}
use Rattle.cue_layers_site.specs.Stores.{IsStoreSame, IsAdded}
use Rattle.cue_layers_site.specs.Views.{IsSyncAnswer, IsViewAnswer, StaysSmall}

-- how all state bytes begin
abbrev pub BeginsState : List ℕ → Type 0
BeginsState bytes = (rest : List ℕ) × (bytes ≡ (254 ∷ 67 ∷ 85 ∷ 69 ∷ []) ++ rest)

-- the piece that a body is: state bytes, or a text
abbrev pub IsBodyPiece : List ℕ → Piece → Type 0
IsBodyPiece body (text t) = (t ≡ body) × ¬ BeginsState body
IsBodyPiece body (state bytes) = (bytes ≡ body) × BeginsState body

module _ {D : Type 0} (seen : D → List ℕ) (may_leave : D → List ℕ → Type 0) where
  -- What a name says is replaced: its revision is one more, and it says just what the pieces do. The
  -- answer has its tag.
  pub record IsPutDone (kind : LayerKind) (pieces : List Piece) (old : LayersStore D) (request : Request (List ℕ)) (response : Response) (new : LayersStore D) : Type 0 where
    pub name : List ℕ
    pub names : IsNameIn kind request name
    pub met : IsMet old.map kind name request
    pub revision : ℕ
    pub put : IsOnePut old.map kind name pieces new.map revision
    pub layer : Layer
    pub has : HasElement new.map layer
    pub is_of : key_of layer ≡ key kind name
    pub more : List Layer
    pub added : IsAdded seen may_leave more old new
    pub answer : IsResponse 204 (layer_tag_field layer ∷ []) [] response

  -- the map that the body has is joined
  pub record IsJoinDone (old : LayersStore D) (request : Request (List ℕ)) (response : Response) (new : LayersStore D) : Type 0 where
    pub more : List Layer
    pub bytes : IsLayersBytes (body_of request) more
    pub added : IsAdded seen may_leave more old new
    pub answer : IsResponse 204 [] [] response

  -- any other answer: nothing changes
  pub record IsOtherwise (old : LayersStore D) (response : Response) (new : LayersStore D) : Type 0 where
    pub same : IsStoreSame seen may_leave old new
    pub answer : response.status ≢ 204

  -- for one of these reasons nothing changes, and the answer says which
  pub record IsTurnedDown (reason : ChangeRefusal → Type 0) (old : LayersStore D) (response : Response) (new : LayersStore D) : Type 0 where
    pub same : IsStoreSame seen may_leave old new
    pub why : ChangeRefusal
    pub because : reason why
    pub answer : IsRefusalAnswer why response
    pub other : response.status ≢ 204

  -- What comes of a request that may change the map: only one who may write does, and then the answer is 204.
  abbrev pub Changes : WriteAccess → (Response → LayersStore D → Type 0) → (ChangeRefusal → Type 0) → LayersStore D → Response → LayersStore D → Type 0
  Changes access done reason old response new =
      ((access ≡ Granted) × done response new) ⊎ IsTurnedDown reason old response new

  -- what the body says is put, and the view stays small
  abbrev pub IsBodyPut : LayerKind → Table → LayersStore D → Request (List ℕ) → Response → LayersStore D → Type 0
  IsBodyPut kind commons old request response new =
      (piece : Piece) × IsBodyPiece (body_of request) piece
      × IsPutDone kind (piece ∷ []) old request response new × StaysSmall commons old.map new.map

  -- The answer to a request of layers, and what it does. The commons says this, and the sender has this access.
  abbrev pub AnswersAs : LayersRoute → Table → WriteAccess → LayersStore D → Request (List ℕ) → Response → LayersStore D → Type 0
  AnswersAs (Put kind) commons access old request response new =
      Changes access (λ response new. IsBodyPut kind commons old request response new)
      (λ why. IsPutReason kind old.map access request why) old response new
  AnswersAs (Remove kind) commons access old request response new =
      Changes access (λ response new. IsPutDone kind [] old request response new)
      (λ why. IsRemoveReason kind old.map access request why) old response new
  AnswersAs Join commons access old request response new =
      Changes access (λ response new. IsJoinDone old request response new)
      (λ why. IsJoinReason access why) old response new
  AnswersAs (Names kind) commons access old request response new = IsOtherwise old response new
  AnswersAs (Show kind) commons access old request response new = IsOtherwise old response new
  AnswersAs (View question) commons access old request response new =
      IsStoreSame seen may_leave old new × IsViewAnswer question old.map commons request response
  AnswersAs Sync commons access old request response new =
      IsStoreSame seen may_leave old new × IsSyncAnswer old.map commons request response

  -- so it is answered; or memory ran out, and nothing changes
  abbrev pub AnswersLayers : LayersRoute → Table → WriteAccess → LayersStore D → Request (List ℕ) → Response → LayersStore D → Type 0
  AnswersLayers route commons access old request response new =
      AnswersAs route commons access old request response new
      ⊎ (IsStoreSame seen may_leave old new × IsResponse 507 [] [] response)

  -- Layers bytes of another site are joined, or nothing changes. They are joined where it went well, or the map has
  -- them already.
  abbrev pub PullsLayers : LayersStore D → List ℕ → Bool → LayersStore D → Type 0
  PullsLayers old bytes true new =
      (more : List Layer) × IsLayersBytes bytes more
      × (IsAdded seen may_leave more old new
      ⊎ (IsJoin old.map more old.map × IsStoreSame seen may_leave old new))
  PullsLayers old bytes false new = IsStoreSame seen may_leave old new
