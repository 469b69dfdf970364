use Rattle.std.proofs.Common.{◌↔◌, List, IsTrue, nat_lt, length, subst, sym, ◌∙◌}
use Rattle.cue_layers.specs.declared.layer.Layer.{Layer}
use Rattle.cue_layers_site.specs.declared.route.LayersRoute.{LayersRoute}
use Rattle.cue_layers_site.specs.Sites.{HasLayers, IsServedHere}
use Rattle.cue_layers_site.proofs.Routes.{has_layers}
use Rattle.cue_layers_site.proofs.site.LayeredSite.is_own.Goals as goal

pub returns-in-View : goal.returns-in-View
returns-in-View g c =
    let there = c.entries.ensures.layers ∙ c.map.ensures in
    let here = subst (λ (m : List Layer). IsTrue (nat_lt 1 (length c.entries.result.now)) ↔ HasLayers m) there (has_layers c.entries.result.now) in
    subst (λ (r : LayersRoute). IsTrue (nat_lt 1 (length c.entries.result.now)) ↔ IsServedHere r c.args.self.now.store.map) (sym c.in-View.is) here
