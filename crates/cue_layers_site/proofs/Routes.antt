-- Which requests ask of layers, by their methods and paths.
use Rattle.std.proofs.Common.{◌≡◌, ◌↔◌, inl, inr, ℕ, List, [], ◌∷◌, codes, get_or, length, Option, Some, None, sym, ap, ◌∙◌, refl, arith, nat_lt, IsTrue, ◌<◌, true, false}
use Rattle.std.proofs.lemmas.Bool.{lt-ltb}
use Rattle.std.specs.Prelude.{IfNone}
use Rattle.http.specs.declared.request.Request.{Request}
use Rattle.http.specs.Request.{head_of}
use Rattle.cue_policies.specs.declared.kind.LayerKind.{LayerKind}
use Rattle.cue_policies.specs.declared.kind.LayerKind.TheVariants as kinds
use Rattle.cue_replica.specs.declared.question.SiteQuestion.{SiteQuestion}
use Rattle.cue_replica.specs.declared.question.SiteQuestion.TheVariants as questions
use Rattle.cue_layers.specs.declared.layer.Layer.{Layer}
use Rattle.cue_service.specs.Requests.{IsReadRequest, path_of}
use Rattle.cue_layers_site.specs.declared.route.LayersRoute.{LayersRoute}
use Rattle.cue_layers_site.specs.declared.route.LayersRoute.TheVariants.{Put, Remove, Names, Show, View, Sync, Join}
use Rattle.cue_layers_site.specs.Requests.{IsLayersRoute, IsNamePath}
use Rattle.cue_layers_site.specs.Sites.{HasLayers}
use Rattle.cue_layers_site.specs.Inner.Routes.{IsReadPath}

-- methods differ in their first or second letter
pub get_put : codes "GET" ≡ codes "PUT" → ⊥
get_put e = let h : 71 ≡ 80 = ap (λ (xs : List ℕ). get_or xs 0 0) e in absurd (omega (arith, h))

pub get_delete : codes "GET" ≡ codes "DELETE" → ⊥
get_delete e = let h : 71 ≡ 68 = ap (λ (xs : List ℕ). get_or xs 0 0) e in absurd (omega (arith, h))

pub get_post : codes "GET" ≡ codes "POST" → ⊥
get_post e = let h : 71 ≡ 80 = ap (λ (xs : List ℕ). get_or xs 0 0) e in absurd (omega (arith, h))

pub head_put : codes "HEAD" ≡ codes "PUT" → ⊥
head_put e = let h : 72 ≡ 80 = ap (λ (xs : List ℕ). get_or xs 0 0) e in absurd (omega (arith, h))

pub head_delete : codes "HEAD" ≡ codes "DELETE" → ⊥
head_delete e = let h : 72 ≡ 68 = ap (λ (xs : List ℕ). get_or xs 0 0) e in absurd (omega (arith, h))

pub head_post : codes "HEAD" ≡ codes "POST" → ⊥
head_post e = let h : 72 ≡ 80 = ap (λ (xs : List ℕ). get_or xs 0 0) e in absurd (omega (arith, h))

put_delete : codes "PUT" ≡ codes "DELETE" → ⊥
put_delete e = let h : 80 ≡ 68 = ap (λ (xs : List ℕ). get_or xs 0 0) e in absurd (omega (arith, h))

put_post : codes "PUT" ≡ codes "POST" → ⊥
put_post e = let h : 85 ≡ 79 = ap (λ (xs : List ℕ). get_or xs 1 0) e in absurd (omega (arith, h))

delete_post : codes "DELETE" ≡ codes "POST" → ⊥
delete_post e = let h : 68 ≡ 80 = ap (λ (xs : List ℕ). get_or xs 0 0) e in absurd (omega (arith, h))

-- who reads has no other method
pub reads_other : (request : Request (List ℕ)) → IsReadRequest request → (method : List ℕ) → (head_of request).method ≡ method → (codes "GET" ≡ method → ⊥) → (codes "HEAD" ≡ method → ⊥) → ⊥
reads_other request (inl get) method is one other = one (sym get ∙ is)
reads_other request (inr head) method is one other = other (sym head ∙ is)

pub reads_view : (question : SiteQuestion) (request : Request (List ℕ)) → IsLayersRoute (View question) request → IsReadRequest request
reads_view questions.Export request asks = asks.0
reads_view questions.Report request asks = asks.0
reads_view questions.Print request asks = asks.0
reads_view questions.State request asks = absurd asks

-- a put of no name
pub put_none : (request : Request (List ℕ)) → (head_of request).method ≡ codes "PUT" → ((kind : LayerKind) → ¬ IsNamePath kind (path_of request)) → (route : LayersRoute) → IsLayersRoute route request → ⊥
put_none request is none (Put kind) asks = none kind asks.1
put_none request is none (Remove kind) asks = put_delete (sym is ∙ asks.0)
put_none request is none (Names kind) asks = reads_other request asks.0 (codes "PUT") is get_put head_put
put_none request is none (Show kind) asks = reads_other request asks.0 (codes "PUT") is get_put head_put
put_none request is none (View question) asks = reads_other request (reads_view question request asks) (codes "PUT") is get_put head_put
put_none request is none Sync asks = reads_other request asks.0 (codes "PUT") is get_put head_put
put_none request is none Join asks = put_post (sym is ∙ asks.0)

-- a removal of no name
pub remove_none : (request : Request (List ℕ)) → (head_of request).method ≡ codes "DELETE" → ((kind : LayerKind) → ¬ IsNamePath kind (path_of request)) → (route : LayersRoute) → IsLayersRoute route request → ⊥
remove_none request is none (Put kind) asks = put_delete (sym asks.0 ∙ is)
remove_none request is none (Remove kind) asks = none kind asks.1
remove_none request is none (Names kind) asks = reads_other request asks.0 (codes "DELETE") is get_delete head_delete
remove_none request is none (Show kind) asks = reads_other request asks.0 (codes "DELETE") is get_delete head_delete
remove_none request is none (View question) asks = reads_other request (reads_view question request asks) (codes "DELETE") is get_delete head_delete
remove_none request is none Sync asks = reads_other request asks.0 (codes "DELETE") is get_delete head_delete
remove_none request is none Join asks = delete_post (sym is ∙ asks.0)

-- nothing of layers is read there
read_none : (request : Request (List ℕ)) → IsReadRequest request → ((route : LayersRoute) → ¬ IsReadPath route (path_of request)) → (route : LayersRoute) → IsLayersRoute route request → ⊥
read_none request reads none (Put kind) asks = reads_other request reads (codes "PUT") asks.0 get_put head_put
read_none request reads none (Remove kind) asks = reads_other request reads (codes "DELETE") asks.0 get_delete head_delete
read_none request reads none (Names kind) asks = none (Names kind) asks.1
read_none request reads none (Show kind) asks = none (Show kind) asks.1
read_none request reads none (View questions.Export) asks = none (View questions.Export) asks.1
read_none request reads none (View questions.Report) asks = none (View questions.Report) asks.1
read_none request reads none (View questions.Print) asks = none (View questions.Print) asks.1
read_none request reads none (View questions.State) asks = absurd asks
read_none request reads none Sync asks = none Sync asks.1
read_none request reads none Join asks = reads_other request reads (codes "POST") asks.0 get_post head_post

pub read_none_if : (found : Option LayersRoute) (request : Request (List ℕ)) → IsReadRequest request → IfNone found ((route : LayersRoute) → ¬ IsReadPath route (path_of request))
    → IfNone found ((route : LayersRoute) → ¬ IsLayersRoute route request)
read_none_if None request reads none = read_none request reads none
read_none_if (Some route) request reads none = tt

-- a path at which nothing is read
pub no_path : (path : List ℕ) → (path ≡ codes "/layers" → ⊥) → (path ≡ codes "/policies" → ⊥) → (path ≡ codes "/export" → ⊥) → (path ≡ codes "/report" → ⊥) → (path ≡ codes "/print" → ⊥) → (path ≡ codes "/sync" → ⊥)
    → ((kind : LayerKind) → ¬ IsNamePath kind path) → (route : LayersRoute) → IsReadPath route path → ⊥
no_path path layers policies export report print sync names (Put kind) at = at
no_path path layers policies export report print sync names (Remove kind) at = at
no_path path layers policies export report print sync names (Names kinds.Layer) at = layers at
no_path path layers policies export report print sync names (Names kinds.Policy) at = policies at
no_path path layers policies export report print sync names (Show kind) at = names kind at
no_path path layers policies export report print sync names (View questions.Export) at = export at
no_path path layers policies export report print sync names (View questions.Report) at = report at
no_path path layers policies export report print sync names (View questions.Print) at = print at
no_path path layers policies export report print sync names (View questions.State) at = at
no_path path layers policies export report print sync names Sync at = sync at
no_path path layers policies export report print sync names Join at = at

-- a map with more than the commons
pub has_layers : (map : List Layer) → IsTrue (nat_lt 1 (length map)) ↔ HasLayers map
has_layers [] = (λ t. let e : false ≡ true = t in cc, λ h. let e : ◌≡◌ {A = List Layer} [] (h.0 ∷ h.1 ∷ h.2) = h.3 in absurd cc)
has_layers (x ∷ []) = (λ t. let e : false ≡ true = t in cc, λ h. let e : ◌≡◌ {A = List Layer} (x ∷ []) (h.0 ∷ h.1 ∷ h.2) = h.3 in absurd cc)
has_layers (x ∷ y ∷ ls) = (λ t. (x, y, ls, refl), λ h. let lt : 1 < length (x ∷ y ∷ ls) = omega arith in lt-ltb 1 (length (x ∷ y ∷ ls)) lt)
