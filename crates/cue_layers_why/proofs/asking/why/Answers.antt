use Rattle.std.proofs.Common.{◌≡◌, [], map, subst}
use Rattle.cue_row.specs.Steps.{step_of}
use Rattle.cue_layers_why.specs.Why.{IsWhy}
use Rattle.cue_layers_why.specs.Inner.Pairs.{AreSources, AreNamedSources}
use Rattle.cue_layers_why.proofs.Pairs.{if_ok_as, none_named, reported_as, why_is}
use Rattle.cue_layers_why.proofs.asking.why.Goals as goal

pub returns-clause-none : goal.returns-clause-none
returns-clause-none c = λ silent.
    let path = map step_of c.args.path.now in
    let layers = c.args.layers.now in
    let sources = c.in_ok-sources_of.field-0.items in
    let kept = c.in_ok-made.made.sources.items in
    let shown = map step_of c.shown_path-place.result.now in
    let are = subst (λ ls. AreSources ls sources) c.entries.ensures.layers c.in_ok-sources_of.ensures in
    let none : kept ≡ [] = c.in_ok-made.ensures.none (λ h. silent ((reported_as layers sources path are).1 h)) in
    if_ok_as c.name_layers.result (λ named. AreNamedSources shown kept named.items) (λ named. named.items ≡ []) (λ named h. none_named shown kept named.items none h) c.name_layers.ensures

pub returns-clause-some : goal.returns-clause-some
returns-clause-some c = λ reported.
    let path = map step_of c.args.path.now in
    let layers = c.args.layers.now in
    let sources = c.in_ok-sources_of.field-0.items in
    let kept = c.in_ok-made.made.sources.items in
    let shown = map step_of c.shown_path-place.result.now in
    let are = subst (λ ls. AreSources ls sources) c.entries.ensures.layers c.in_ok-sources_of.ensures in
    let told = (reported_as layers sources path are).0 reported in
    if_ok_as c.name_layers.result (λ named. AreNamedSources shown kept named.items) (λ named. IsWhy layers path named.items)
    (λ named h. why_is layers sources kept path shown c.in_ok-made.made.of_label named.items are (c.in_ok-made.ensures.left told) (c.in_ok-made.ensures.least told) c.in_ok-made.ensures.label c.shown_path-place.ensures h) c.name_layers.ensures
