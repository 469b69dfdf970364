-- What a request asks of the layers.
use Rattle.std.specs.Prelude.{◌≡◌, ◌++◌, ℕ, List, Some, codes}
use Rattle.cue_policies.specs.declared.kind.LayerKind.{LayerKind}
use Rattle.cue_policies.specs.declared.kind.LayerKind.TheVariants as kinds
use Rattle.cue_replica.specs.declared.question.SiteQuestion.TheVariants as questions
use Rattle.http.specs.declared.request.Request.{Request}
use Rattle.http.specs.Request.{head_of}
use Rattle.http_header.specs.FieldValue.{FieldValue}
use Rattle.http_header.specs.HeaderMap.{get}
use Rattle.percent_encoding.specs.Percent.{percent_decode}
use Rattle.cue_service.specs.Requests.{path_of, IsReadRequest, AsksForPath, HandsToPath}
use Rattle.cue_layers_site.specs.declared.route.LayersRoute.{LayersRoute}
use Rattle.cue_layers_site.specs.declared.route.LayersRoute.TheVariants.{Put, Remove, Names, Show, View, Sync, Join}

-- the first field of this name has this value
abbrev pub HasFieldValue : List ℕ → List ℕ → Request (List ℕ) → Type 0
HasFieldValue name value request =
    (field : FieldValue) × (get (head_of request).headers name ≡ Some field) × (field.bytes ≡ value)

-- what stands in front of a name in a path
abbrev pub name_prefix : LayerKind → List ℕ
name_prefix kinds.Layer = codes "/layers/"
name_prefix kinds.Policy = codes "/policies/"

-- the path of all names of a kind
abbrev pub list_path : LayerKind → List ℕ
list_path kinds.Layer = codes "/layers"
list_path kinds.Policy = codes "/policies"

-- the path has a name of this kind
abbrev pub IsNamePath : LayerKind → List ℕ → Type 0
IsNamePath kind path = (name : List ℕ) × (path ≡ name_prefix kind ++ name)

-- the name in the path of a request, decoded
abbrev pub IsNameIn : LayerKind → Request (List ℕ) → List ℕ → Type 0
IsNameIn kind request name =
    (spelled : List ℕ) × (path_of request ≡ name_prefix kind ++ spelled) × (name ≡ percent_decode spelled)

-- the request has this method, and names a layer or a policy
abbrev pub IsForName : List ℕ → LayerKind → Request (List ℕ) → Type 0
IsForName method kind request = ((head_of request).method ≡ method) × IsNamePath kind (path_of request)

-- What a request asks of the layers. All other requests go to the service of the commons.
abbrev pub IsLayersRoute : LayersRoute → Request (List ℕ) → Type 0
IsLayersRoute (Put kind) request = IsForName (codes "PUT") kind request
IsLayersRoute (Remove kind) request = IsForName (codes "DELETE") kind request
IsLayersRoute (Names kind) request = AsksForPath (list_path kind) request
IsLayersRoute (Show kind) request = IsReadRequest request × IsNamePath kind (path_of request)
IsLayersRoute (View questions.Export) request = AsksForPath (codes "/export") request
IsLayersRoute (View questions.Report) request = AsksForPath (codes "/report") request
IsLayersRoute (View questions.Print) request = AsksForPath (codes "/print") request
IsLayersRoute (View questions.State) request = ⊥
IsLayersRoute Sync request = AsksForPath (codes "/sync") request
IsLayersRoute Join request = HandsToPath (codes "/sync") request
