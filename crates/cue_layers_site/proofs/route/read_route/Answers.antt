use Rattle.std.proofs.Common.{◌≡◌, codes, rules}
use Rattle.cue_layers_site.proofs.Routes.{no_path}
use Rattle.cue_layers_site.proofs.route.read_route.Goals as goal

pub returns-in-None-clause-none : goal.returns-in-None-clause-none
returns-in-None-clause-none c =
    let path = c.args.path.now in
    let layers : path ≡ codes "/layers" → ⊥ = search rules in
    let policies : path ≡ codes "/policies" → ⊥ = search rules in
    let export : path ≡ codes "/export" → ⊥ = search rules in
    let report : path ≡ codes "/report" → ⊥ = search rules in
    let print : path ≡ codes "/print" → ⊥ = search rules in
    let sync : path ≡ codes "/sync" → ⊥ = search rules in
    no_path path layers policies export report print sync c.in-None.ensures.none
