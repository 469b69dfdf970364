-- A service of layers around that of the commons.
use Rattle.std.specs.Prelude.{◌≡◌, ◌⊎◌, ◌&&◌, ℕ, Bool, List, ◌∷◌}
use Rattle.cue_replica.specs.Language.{Table}
use Rattle.http.specs.declared.request.Request.{Request}
use Rattle.http_server.specs.declared.response.Response.{Response}
use Rattle.cue_layers.specs.declared.layer.Layer.{Layer}
use Rattle.cue_layers_site.specs.declared.access.WriteAccess.{WriteAccess}
use Rattle.cue_layers_site.specs.declared.access.WriteAccess.TheVariants.{Granted}
use Rattle.cue_layers_site.specs.declared.route.LayersRoute.{LayersRoute}
use Rattle.cue_layers_site.specs.declared.route.LayersRoute.TheVariants.{View}
use Rattle.cue_layers_site.specs.declared.site.LayeredSite.{LayeredSite}
use Rattle.cue_layers_site.specs.Answering.{AnswersLayers}
use Rattle.cue_layers_site.specs.Requests.{IsLayersRoute}
use Rattle.cue_layers_site.specs.Stores.{SettlesLayers}

-- the map has a layer beside the commons
abbrev pub HasLayers : List Layer → Type 0
HasLayers map = (commons layer : Layer) × (layers : List Layer) × (map ≡ commons ∷ layer ∷ layers)

-- What is answered here: all that asks of layers; questions about the view where there are layers.
abbrev pub IsServedHere : LayersRoute → List Layer → Type 0
IsServedHere (View question) map = HasLayers map
IsServedHere route map = Unit {0}

module _ {S D : Type 0} (seen : D → List ℕ) (may_leave : D → List ℕ → Type 0) where
  -- it is served by the service of the commons, of which the answers are these
  pub record IsServedInside (answers : S → Request (List ℕ) → Response → S → Type 0) (old : LayeredSite S D) (request : Request (List ℕ)) (response : Response) (new : LayeredSite S D) : Type 0 where
    pub none : (route : LayersRoute) → IsLayersRoute route request → ¬ IsServedHere route old.store.map
    pub inside : answers old.inner request response new.inner
    pub store : new.store ≡ old.store

  -- it is served here
  pub record IsServed (commons : S → Table) (lets_write : S → Request (List ℕ) → Type 0) (old : LayeredSite S D) (request : Request (List ℕ)) (response : Response) (new : LayeredSite S D) : Type 0 where
    pub route : LayersRoute
    pub asks : IsLayersRoute route request
    pub here : IsServedHere route old.store.map
    pub access : WriteAccess
    pub lets : access ≡ Granted → lets_write old.inner request
    pub answer : AnswersLayers seen may_leave route (commons old.inner) access old.store request response new.store
    pub inside : new.inner ≡ old.inner

  abbrev pub AnswersLayered : (S → Request (List ℕ) → Response → S → Type 0) → (S → Table) → (S → Request (List ℕ) → Type 0) → LayeredSite S D → Request (List ℕ) → Response → LayeredSite S D → Type 0
  AnswersLayered answers commons lets_write old request response new =
      IsServedInside answers old request response new ⊎ IsServed commons lets_write old request response new

  -- the end of a round: both end theirs, and it stands where both do
  abbrev pub SettlesBoth : (S → Bool → S → Type 0) → LayeredSite S D → Bool → LayeredSite S D → Type 0
  SettlesBoth settles old verdict new =
      (own inside : Bool) × SettlesLayers seen may_leave old.store own new.store
      × settles old.inner inside new.inner × (verdict ≡ (own && inside))
