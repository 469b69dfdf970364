use Rattle.std.proofs.Common.{◌≡◌, List, ℕ, codes, inl, inr, rules, subst}
use Rattle.http.specs.Request.{head_of}
use Rattle.cue_policies.specs.declared.kind.LayerKind.{LayerKind}
use Rattle.std.specs.Prelude.{IfNone}
use Rattle.cue_service.specs.Requests.{path_of}
use Rattle.cue_layers_site.specs.declared.route.LayersRoute.{LayersRoute}
use Rattle.cue_layers_site.specs.Requests.{IsNamePath}
use Rattle.cue_layers_site.specs.Inner.Routes.{IsReadPath}
use Rattle.cue_layers_site.proofs.Routes.{put_none, remove_none, read_none_if}
use Rattle.cue_layers_site.proofs.route.layers_route.Goals as goal

pub returns-in-None-clause-none : goal.returns-in-None-clause-none
returns-in-None-clause-none c =
    let request = c.args.request.now in
    let is : (head_of request).method ≡ codes "PUT" = search rules in
    let path : c.path-path.result.now ≡ path_of request = search rules in
    put_none request is (subst (λ (p : List ℕ). (kind : LayerKind) → ¬ IsNamePath kind p) path c.in-None.ensures.none)

pub returns-in-None-kind_in-clause-none : goal.returns-in-None-kind_in-clause-none
returns-in-None-kind_in-clause-none c =
    let request = c.args.request.now in
    let is : (head_of request).method ≡ codes "DELETE" = search rules in
    let path : c.path-path.result.now ≡ path_of request = search rules in
    remove_none request is (subst (λ (p : List ℕ). (kind : LayerKind) → ¬ IsNamePath kind p) path c.in-None-kind_in.ensures.none)

pub returns-in-GET-clause-none : goal.returns-in-GET-clause-none
returns-in-GET-clause-none c =
    let request = c.args.request.now in
    let is : (head_of request).method ≡ codes "GET" = search rules in
    let path : c.path-path.result.now ≡ path_of request = search rules in
    read_none_if c.read_route.result request (inl is) (subst (λ (p : List ℕ). IfNone c.read_route.result ((route : LayersRoute) → ¬ IsReadPath route p)) path c.read_route.ensures.none)

pub returns-in-HEAD-clause-none : goal.returns-in-HEAD-clause-none
returns-in-HEAD-clause-none c =
    let request = c.args.request.now in
    let is : (head_of request).method ≡ codes "HEAD" = search rules in
    let path : c.path-path.result.now ≡ path_of request = search rules in
    read_none_if c.read_route-in-HEAD.result request (inr is) (subst (λ (p : List ℕ). IfNone c.read_route-in-HEAD.result ((route : LayersRoute) → ¬ IsReadPath route p)) path c.read_route-in-HEAD.ensures.none)
