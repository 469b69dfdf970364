-- What a service of layers promises of each round of calls.
use Rattle.std.specs.Prelude.{◌≡◌, ◌≢◌, ◌⊎◌, ◌++◌, ℕ, Bool, true, List, [], ◌∷◌}
use Rattle.cue_lattice.specs.Question.{SameAnswers}
use Rattle.cue_lattice.specs.World.{Piece, pieces_refuse}
use Rattle.cue_policies.specs.declared.kind.LayerKind.{LayerKind}
use Rattle.cue_replica.specs.Language.{language}
use Rattle.http.specs.declared.request.Request.{Request}
use Rattle.http.specs.Request.{body_of}
use Rattle.http_server.specs.declared.response.Response.{Response}
use Rattle.http_server.specs.Exchange.{Call, Chain}
use Rattle.cue_layers.specs.declared.layer.Layer.{Layer}
use Rattle.cue_layers.specs.Bytes.{IsLayersBytes}
use Rattle.cue_layers.specs.Maps.{IsJoin}
use Rattle.cue_layers_site.specs.declared.route.LayersRoute.{LayersRoute}
use Rattle.cue_layers_site.specs.declared.route.LayersRoute.TheVariants.{Put, Remove, Join}
use Rattle.cue_layers_site.specs.declared.site.LayeredSite.{LayeredSite}
use Rattle.cue_layers_site.specs.declared.store.LayersStore.{LayersStore}
use Rattle.cue_layers_site.specs.Answering.{IsBodyPiece, PullsLayers}
use Rattle.cue_layers_site.specs.Requests.{IsNameIn, IsLayersRoute}
use Rattle.cue_layers_site.specs.Stores.{IsKept, LeavesMaps, SettlesLayers}

-- the layer says just what the pieces do, under this name
pub record IsLayerOfPieces (kind : LayerKind) (name : List ℕ) (pieces : List Piece) (layer : Layer) : Type 0 where
  pub kind_is : layer.kind ≡ kind
  pub name_is : layer.name ≡ name
  pub says : SameAnswers (language.table_refuses layer.content) (pieces_refuse language pieces)

-- the layer that a request puts there; that of a removal says nothing
abbrev pub IsPutBy : LayersRoute → Request (List ℕ) → List Layer → Type 0
IsPutBy (Put kind) request layers =
    (name : List ℕ) × (piece : Piece) × (layer : Layer) × IsNameIn kind request name
    × IsBodyPiece (body_of request) piece × IsLayerOfPieces kind name (piece ∷ []) layer × (layers ≡ layer ∷ [])
IsPutBy (Remove kind) request layers =
    (name : List ℕ) × (layer : Layer) × IsNameIn kind request name × IsLayerOfPieces kind name [] layer
    × (layers ≡ layer ∷ [])
IsPutBy Join request layers = IsLayersBytes (body_of request) layers
IsPutBy route request layers = ⊥

-- the request would change layers
abbrev pub MayChange : LayersRoute → Type 0
MayChange (Put kind) = Unit {0}
MayChange (Remove kind) = Unit {0}
MayChange Join = Unit {0}
MayChange route = ⊥

-- The layers that a call acknowledged: those that it put there, where the answer to one that would
-- change layers is 204; and else none.
abbrev pub AreAcknowledgedBy : Call → List Layer → Type 0
AreAcknowledgedBy call layers =
    ((route : LayersRoute) × IsLayersRoute route call.0 × (call.1.status ≡ 204) × IsPutBy route call.0 layers)
    ⊎ ((layers ≡ [])
    × ((route : LayersRoute) → IsLayersRoute route call.0 → MayChange route → call.1.status ≢ 204))

-- those that calls acknowledged, in order
abbrev pub AreAcknowledged : List Call → List Layer → Type 0
AreAcknowledged [] layers = layers ≡ []
AreAcknowledged (call ∷ calls) layers =
    (now later : List Layer) × AreAcknowledgedBy call now × AreAcknowledged calls later × (layers ≡ now ++ later)

-- the map is joined by just the layers that calls acknowledged
abbrev pub IsJoinedBy : List Layer → List Call → List Layer → Type 0
IsJoinedBy old calls new = (layers : List Layer) × AreAcknowledged calls layers × IsJoin old layers new

module _ {S D : Type 0} (seen : D → List ℕ) (may_leave : D → List ℕ → Type 0) (answers : LayeredSite S D → Request (List ℕ) → Response → LayeredSite S D → Type 0) where
  -- After any calls the map is the join of what it was and of just the layers acknowledged. The disk stands for what it
  -- did, and with what waits for that map.
  abbrev pub AreLayersHeld : Type 0
  AreLayersHeld =
      (old called : LayeredSite S D) (calls : List Call) (on_disk : List Layer)
      → IsKept seen may_leave old.store on_disk → Chain answers old calls called
      → IsKept seen may_leave called.store on_disk × IsJoinedBy old.store.map calls called.store.map

  -- where the round stands, the disk stands for the map
  abbrev pub LayersStand : Type 0
  LayersStand =
      (old called : LayeredSite S D) (new : LayersStore D) (calls : List Call) (on_disk : List Layer)
      → IsKept seen may_leave old.store on_disk → Chain answers old calls called
      → SettlesLayers seen may_leave called.store true new
      → IsKept seen may_leave new called.store.map × (new.map ≡ called.store.map)

  -- a crash leaves what stands for the map that was on the disk before, or for the new one
  abbrev pub LayersSurvive : Type 0
  LayersSurvive =
      (old called : LayeredSite S D) (new : LayersStore D) (calls : List Call) (verdict : Bool) (on_disk : List Layer)
      → IsKept seen may_leave old.store on_disk → Chain answers old calls called
      → SettlesLayers seen may_leave called.store verdict new
      → LeavesMaps seen may_leave new on_disk called.store.map

-- so it is with the layers that are pulled
abbrev pub ArePulled : {D : Type 0} (seen : D → List ℕ) (may_leave : D → List ℕ → Type 0) → Type 0
ArePulled {D} seen may_leave =
    (old new : LayersStore D) (bytes : List ℕ) (taken : Bool) (on_disk : List Layer)
    → IsKept seen may_leave old on_disk → PullsLayers seen may_leave old bytes taken new
    → IsKept seen may_leave new on_disk
