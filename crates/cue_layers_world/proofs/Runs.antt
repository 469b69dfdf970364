-- A run so far: its events lead to some sets of puts, and sites and messages agree with all sets to
-- which they lead.
use Rattle.std.proofs.Common.{◌≡◌, ℕ, zero, suc, List, [], ◌∷◌, ◌++◌, Vec, Global, refl, sym, subst}
use Rattle.std.specs.Prelude.{replicate}
use Rattle.cue_lattice.specs.World.{AllAlong}
use Rattle.cue_layers.specs.Maps.{IsMapOfPuts}
use Rattle.cue_layers.specs.Puts.{Put}
use Rattle.cue_layers.proofs.Maps.{equal_of_one_set}
use Rattle.cue_replica.proofs.Along.{along_at}
use Rattle.cue_layers_world.specs.Inner.Steps.{Map, MapsAgree, StepsMaps}
use Rattle.cue_layers_world.specs.Sites.{IsSiteOf, AreEqualMaps, AreSitesOfEqualViews}
use Rattle.cue_layers_world.specs.World.{LayerSets, LayersHappen, LayersReach, start_layers, puts_at}
use Rattle.cue_layers_world.specs.declared.world.LayersEvent.{LayersEvent}
use Rattle.cue_layers_world.specs.declared.world.LayersOutcome.{LayersOutcome}
use Rattle.cue_layers_world.proofs.Alike.{equal_maps}

-- one more event
reaches_more :
    (sets : LayerSets) (events : List LayersEvent) (outcomes : List LayersOutcome) (event : LayersEvent) (outcome : LayersOutcome) (last next : LayerSets)
    → LayersReach sets events outcomes last → LayersHappen last event outcome next → LayersReach sets (events ++ event ∷ []) (outcomes ++ outcome ∷ []) next
reaches_more sets [] [] event outcome last next reached happens = (next, subst (λ (s : LayerSets). LayersHappen s event outcome next) reached happens, refl)
reaches_more sets [] (o ∷ os) event outcome last next reached happens = absurd reached
reaches_more sets (e ∷ es) [] event outcome last next reached happens = absurd reached
reaches_more sets (e ∷ es) (o ∷ os) event outcome last next reached happens = (reached.0, reached.1, reaches_more reached.0 es os event outcome last next reached.2 happens)

-- and one less
reaches_less :
    (sets other : LayerSets) (events : List LayersEvent) (outcomes : List LayersOutcome) (event : LayersEvent) (outcome : LayersOutcome) (known last : LayerSets)
    → LayersReach other events outcomes known → LayersReach sets (events ++ event ∷ []) (outcomes ++ outcome ∷ []) last
    → (before : LayerSets) × LayersReach sets events outcomes before × LayersHappen before event outcome last
reaches_less sets other [] [] event outcome known last reached more =
    (sets, refl, subst (LayersHappen sets event outcome) (sym more.2) more.1)
reaches_less sets other [] (o ∷ os) event outcome known last reached more = absurd reached
reaches_less sets other (e ∷ es) [] event outcome known last reached more = absurd reached
reaches_less sets other (e ∷ es) (o ∷ os) event outcome known last reached more =
    let less = reaches_less more.0 reached.0 es os event outcome known last reached.2 more.2 in
    (less.0, (more.0, more.1, less.1), less.2)

pub record IsSoFar (count : ℕ) (events : List LayersEvent) (sites : List Map) (messages : List (Vec ℕ Global)) (outcomes : List LayersOutcome) : Type 0 where
  pub some : (sets : LayerSets) × LayersReach (start_layers count) events outcomes sets
  pub every : (sets : LayerSets) → LayersReach (start_layers count) events outcomes sets → MapsAgree sites messages sets

-- one more new site
pub open_more : (count : ℕ) (sites : List Map) (site : Map) → AllAlong IsSiteOf sites (replicate count []) → IsMapOfPuts [] site → AllAlong IsSiteOf (sites ++ site ∷ []) (replicate (suc count) [])
open_more zero [] site along is = (is, tt)
open_more zero (m ∷ ms) site along is = absurd along
open_more (suc n) [] site along is = absurd along
open_more (suc n) (m ∷ ms) site along is = (along.0, open_more n ms site along.1 is)

-- before the first event
pub so_far_none : (count : ℕ) (sites : List Map) (messages : List (Vec ℕ Global)) (outcomes : List LayersOutcome) → AllAlong IsSiteOf sites (replicate count []) → messages ≡ [] → outcomes ≡ [] → IsSoFar count [] sites messages outcomes
so_far_none count sites messages outcomes along m o =
    let Q : List (Vec ℕ Global) → Type 0 = λ x. IsSoFar count [] sites x outcomes in
    let R : List LayersOutcome → Type 0 = λ x. IsSoFar count [] sites [] x in
    subst Q (sym m) (subst R (sym o) (record {
      some = (start_layers count, refl);
      every = λ sets reached. subst (MapsAgree sites []) (sym reached) (record { sites = along; sent = tt });
    }))

-- after one more
pub so_far_more :
    (count : ℕ) (events : List LayersEvent) (event : LayersEvent) (sites sites' : List Map) (messages messages' : List (Vec ℕ Global)) (outcomes : List LayersOutcome) (outcome : LayersOutcome)
    → IsSoFar count events sites messages outcomes
    → ((sets : LayerSets) → MapsAgree sites messages sets → StepsMaps event sites' messages' outcome sets)
    → IsSoFar count (events ++ event ∷ []) sites' messages' (outcomes ++ outcome ∷ [])
so_far_more count events event sites sites' messages messages' outcomes outcome so_far steps = record {
  some =
      let before = so_far.some.0 in
      let step = steps before (so_far.every before so_far.some.1) in
      (step.some.0, reaches_more (start_layers count) events outcomes event outcome before step.some.0 so_far.some.1 step.some.1);
  every = λ sets reached.
      let less = reaches_less (start_layers count) (start_layers count) events outcomes event outcome so_far.some.0 sets so_far.some.1 reached in
      (steps less.0 (so_far.every less.0 less.1)).every sets less.2;
}

-- at the end sites with the same set of puts have equal maps
pub equal_sites : (sites : List Map) (sets : List (List Put)) → AllAlong IsSiteOf sites sets → AreEqualMaps sites sets
equal_sites sites sets along i j a b at_i at_j same =
    let here = along_at IsSiteOf sites sets i a [] along at_i in
    let there = along_at IsSiteOf sites sets j b [] along at_j in
    equal_of_one_set a b (puts_at sets i) (puts_at sets j) here there same

-- and equal views
pub sites_of_equal_views : (sites : List Map) (sets : List (List Put)) → AllAlong IsSiteOf sites sets → AreSitesOfEqualViews sites sets
sites_of_equal_views sites sets along i j a b at_i at_j same = equal_maps a b (equal_sites sites sets along i j a b at_i at_j same)
